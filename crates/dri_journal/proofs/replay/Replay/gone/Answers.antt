use Rattle.std.proofs.Common.{◌∙◌, ◌++◌, [], ◌∷◌, Some, None, sym, ap, refl, subst, arith, length, List}
use Rattle.std.proofs.Math.ListN.{set}
use Rattle.std.proofs.lemmas.Option.{slice_get_within}
use Rattle.dri_base.specs.Scenes.{script_of}
use Rattle.dri_base.specs.declared.journal.Entry.TheVariants.{Gone}
use Rattle.dri_base.specs.declared.scene.ClientScript.{ClientScript}
use Rattle.dri_base.proofs.RangeLemmas.{well_formed}
use Rattle.dri_client.specs.Parts.{PartState}
use Rattle.dri_core.specs.EntryTable.{LegalEntry}
use Rattle.dri_core.specs.Runs.{after}
use Rattle.dri_core.proofs.Bounds.{made_bounded, stamp_most}
use Rattle.dri_core.proofs.Kept.{after_kept}
use Rattle.dri_model.specs.Stacks.{without_owner}
use Rattle.dri_journal.proofs.Keeping.{faithful, part_found, parts_step}
use Rattle.dri_journal.proofs.Restacked.{board_after, cut_counts, cuts_told, touched_after}
use Rattle.dri_journal.proofs.Whom.{found, has_number, is_there, small_number, some_commands}
use Rattle.dri_journal.specs.Replays.{MayTake}
use Rattle.dri_journal.specs.Tallies as Tallies
use Rattle.dri_meaning.specs.Reports.{tally}
use Rattle.dri_journal.proofs.replay.Replay.gone.Goals as goal

pub unwrap-at-requires : goal.unwrap-at-requires
unwrap-at-requires c =
    let i = c.self.inside in let s = i.scene.now in let j = i.entries.items in let e = Gone c.args.client in let good = c.self.invariant.scene in let run = c.self.invariant.run in
    let legal : LegalEntry s (after s j) e = subst (λ v. MayTake v e) (sym c.self.view_is) c.requires in
    is_there s c.as_slice.result.now c.place_of.result c.args.client c.args.client c.as_slice.ensures refl c.place_of.ensures.there (has_number s j good run c.args.client (some_commands s j good run e refl legal))

pub unmap_windows-requires-clause-counter : goal.unmap_windows-requires-clause-counter
unmap_windows-requires-clause-counter c =
    let i = c.self.inside in
    omega (arith, c.self.invariant.windows.last, stamp_most i.scene.now i.entries.items c.self.invariant.scene c.self.invariant.run)

pub index_mut-requires : goal.index_mut-requires
index_mut-requires c =
    let s = c.self.inside.scene.now in
    let there = found s c.as_slice.result.now c.place_of.result c.unwrap-at.result c.args.client c.args.client c.unwrap-at.ensures c.as_slice.ensures refl c.place_of.ensures.script in
    let below = slice_get_within s.clients c.unwrap-at.result (script_of s c.args.client) there in
    omega (arith, below, c.self.invariant.clients.room, c.self.inside.parts.ok)

pub cut-requires : goal.cut-requires
cut-requires c = c.self.invariant.counts.room ∙ ap (λ (ps : List ClientScript). length ps) (sym c.as_slice-2.ensures)

pub after-self-inside-requires-clause-client : goal.after-self-inside-requires-clause-client
after-self-inside-requires-clause-client c =
    let s = c.self.inside.scene.now in
    let there = found s c.as_slice.result.now c.place_of.result c.unwrap-at.result c.args.client c.args.client c.unwrap-at.ensures c.as_slice.ensures refl c.place_of.ensures.script in
    small_number s c.self.inside.entries.items c.self.invariant.scene c.self.invariant.run c.args.client c.unwrap-at.result there

pub after-self-inside-requires-clause-made : goal.after-self-inside-requires-clause-made
after-self-inside-requires-clause-made c =
    let i = c.self.inside in
    omega (arith, c.self.invariant.world.made, made_bounded i.scene.now i.entries.items c.self.invariant.scene c.self.invariant.run, c.self.invariant.scene.changed.few)

pub invariant_of-self-2 : goal.invariant_of-self-2
invariant_of-self-2 c =
    let i = c.self.inside in let s = i.scene.now in let j = i.entries.items in let n = c.args.client in let e = Gone n in let at = c.unwrap-at.result in let good = c.self.invariant.scene in let run = c.self.invariant.run in
    let legal : LegalEntry s (after s j) e = subst (λ v. MayTake v e) (sym c.self.view_is) c.requires in
    let there = found s c.as_slice.result.now c.place_of.result at n n c.unwrap-at.ensures c.as_slice.ensures refl c.place_of.ensures.script in
    let part = c.index_mut.result.now in
    let own = part_found s (after s j) n at i.parts.items part c.self.invariant.clients there c.index_mut.ensures.value in
    let new = without_owner n (after s j).stack in
    let stack = ap (without_owner n) c.self.invariant.windows.windows in
    let some = touched_after s (after s j) (without_owner n i.board.stack) new None None i.board c.in_ok-touched.touched c.self.invariant.windows stack refl c.in_ok-touched.ensures.touched in
    faithful s j c.push_reserved.new.self.items e i.board c.unmap_windows.new.board i.regions i.regions i.parts.items (set i.parts.items at c.gone.new.self) i.tally c.cut.new.self i.marks c.after-self-inside.result
    c.self.invariant legal (c.push_reserved.ensures.items ∙ ap (λ xs. xs ++ e ∷ []) c.reserve.ensures.items)
    (board_after s (after s j) (without_owner n i.board.stack) new i.board c.unmap_windows.new.board c.self.invariant.windows stack c.in_ok-touched.ensures.ok)
    c.self.invariant.memory
    (parts_step s (after s j) e n at i.parts.items c.gone.new.self good refl there c.self.invariant.clients (c.gone.ensures.part s (after s j) n own.0) (c.gone.ensures.kept (script_of s n) s.regions own.1) (ap (λ (p : PartState). p.placed.region_size) c.gone.ensures.state ∙ own.2))
    (cut_counts s (after s j) e (tally s j) c.as_slice-2.result.now c.as_slice-3.result.now None i.tally c.cut.new.self good c.as_slice-2.ensures c.self.invariant.counts c.cut.ensures.cut c.cut.ensures.frames c.cut.ensures.stood
    (λ m le. ap (λ ns. Tallies.is_cut ns None m) c.as_slice-3.ensures ∙ cuts_told s (after s j) e None new (Some c.in_ok-touched.touched) None m (after_kept s j (well_formed s good) run) le refl some tt refl))
    (c.after-self-inside.ensures s (after s j) c.self.invariant.world)

pub returns-clause-took : goal.returns-clause-took
returns-clause-took c = rw (← c.self.view_is) (record { scene = refl; entries = c.push_reserved.ensures.items ∙ ap (λ xs. xs ++ Gone c.args.client ∷ []) c.reserve.ensures.items })

pub returns-clause-deed : goal.returns-clause-deed
returns-clause-deed c =
    let i = c.self.inside in let s = i.scene.now in let j = i.entries.items in let n = c.args.client in
    let stack = ap (without_owner n) c.self.invariant.windows.windows in
    rw (← c.self.view_is) (refl, touched_after s (after s j) (without_owner n i.board.stack) (without_owner n (after s j).stack) None None i.board c.in_ok-touched.touched c.self.invariant.windows stack refl c.in_ok-touched.ensures.touched)
