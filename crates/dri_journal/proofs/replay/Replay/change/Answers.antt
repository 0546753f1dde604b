use Rattle.std.proofs.Common.{◌≡◌, ◌∙◌, ◌++◌, [], ◌∷◌, Some, sym, ap, refl, subst, arith, length, List}
use Rattle.std.specs.Prelude.{IfNone, is_none, is_some, slice_get}
use Rattle.dri_base.specs.declared.journal.Entry.TheVariants.{Change}
use Rattle.dri_base.specs.declared.scene.ClientScript.{ClientScript}
use Rattle.dri_base.proofs.RangeLemmas.{well_formed}
use Rattle.dri_core.specs.EntryTable.{LegalEntry, after_entry}
use Rattle.dri_core.specs.Restacks.{change_moved, change_stack, next_moved, next_stack}
use Rattle.dri_core.specs.Runs.{after}
use Rattle.dri_core.proofs.Bounds.{made_bounded, stamp_most}
use Rattle.dri_core.proofs.Kept.{after_kept}
use Rattle.dri_model.specs.Stacks.{is_moved_whole, moved_by, refusal, stack_after}
use Rattle.dri_journal.proofs.Keeping.{faithful, parts_stay}
use Rattle.dri_journal.proofs.Restacked.{board_after, cut_counts, cuts_told, tells, told_after, untold_after, whole_told}
use Rattle.dri_journal.specs.Deeds.{TellsStack, is_refused, refuses_next, whole_window}
use Rattle.dri_journal.specs.Replays.{MayTake, world_of}
use Rattle.dri_journal.specs.Tallies.{is_cut}
use Rattle.dri_meaning.specs.Reports.{tally}
use Rattle.dri_journal.proofs.replay.Replay.change.Goals as goal

pub change_windows-requires-clause-counter : goal.change_windows-requires-clause-counter
change_windows-requires-clause-counter c =
    let i = c.self.inside in
    omega (arith, c.self.invariant.windows.last, stamp_most i.scene.now i.entries.items c.self.invariant.scene c.self.invariant.run)

pub cut-requires : goal.cut-requires
cut-requires c = c.self.invariant.counts.room ∙ ap (λ (ps : List ClientScript). length ps) (sym c.as_slice.ensures)

pub after-self-inside-requires-clause-made : goal.after-self-inside-requires-clause-made
after-self-inside-requires-clause-made c =
    let i = c.self.inside in
    omega (arith, c.self.invariant.world.made, made_bounded i.scene.now i.entries.items c.self.invariant.scene c.self.invariant.run, c.self.invariant.scene.changed.few)

pub invariant_of-self-2 : goal.invariant_of-self-2
invariant_of-self-2 c =
    let i = c.self.inside in let s = i.scene.now in let j = i.entries.items in let e = Change c.args.place in let good = c.self.invariant.scene in let run = c.self.invariant.run in
    let legal : LegalEntry s (after s j) e = subst (λ v. MayTake v e) (sym c.self.view_is) c.requires in
    let there : slice_get s.changes (after s j).made ≡ Some c.get-change.result.now = ap (λ m. slice_get s.changes m) (sym c.self.invariant.world.made) ∙ c.get-change.ensures in
    let stack : stack_after c.get-change.result.now i.board.stack ≡ next_stack s (after s j) = ap (stack_after c.get-change.result.now) c.self.invariant.windows.windows ∙ ap (change_stack (after s j).stack) (sym there) in
    let new = next_stack s (after s j) in
    let goes : moved_by c.get-change.result.now i.board.stack ≡ next_moved s (after s j) = ap (moved_by c.get-change.result.now) c.self.invariant.windows.windows ∙ ap (change_moved (after s j).stack) (sym there) in
    let some = told_after s (after s j) (stack_after c.get-change.result.now i.board.stack) new (moved_by c.get-change.result.now i.board.stack) (next_moved s (after s j)) i.board c.in_ok-told.told c.self.invariant.windows stack goes c.in_ok-told.ensures.touched in
    let change = c.get-change.result.now in
    let named = told_after s (after s j) (stack_after change i.board.stack) new (moved_by change i.board.stack) (moved_by change (after s j).stack) i.board c.in_ok-told.told c.self.invariant.windows stack (ap (moved_by change) c.self.invariant.windows.windows) c.in_ok-told.ensures.touched in
    let refused : is_none c.in_ok-told.told ≡ is_some (refusal change (after s j).stack) = c.in_ok-told.ensures.refused ∙ ap (λ ws. is_some (refusal change ws)) c.self.invariant.windows.windows in
    let none = subst (λ ws. IfNone c.in_ok-told.told (ws ≡ (after s j).stack)) (ap (change_stack (after s j).stack) (sym there)) (untold_after s (after s j) c.get-change.result.now i.board c.in_ok-told.told c.self.invariant.windows c.in_ok-told.ensures.refused) in
    faithful s j c.push_reserved.new.self.items e i.board c.change_windows.new.board i.regions i.regions i.parts.items i.parts.items i.tally c.cut.new.self i.marks c.after-self-inside.result
    c.self.invariant legal (c.push_reserved.ensures.items ∙ ap (λ xs. xs ++ e ∷ []) c.reserve.ensures.items)
    (board_after s (after s j) (stack_after c.get-change.result.now i.board.stack) new i.board c.change_windows.new.board c.self.invariant.windows stack c.in_ok-told.ensures.ok)
    c.self.invariant.memory (parts_stay s (after s j) (after_entry s (after s j) e) i.parts.items refl c.self.invariant.clients)
    (cut_counts s (after s j) e (tally s j) c.as_slice.result.now c.windows_of.result.now c.whole_window.result i.tally c.cut.new.self good c.as_slice.ensures c.self.invariant.counts c.cut.ensures.cut c.cut.ensures.frames c.cut.ensures.stood
    (λ n le. (λ k. is_cut (c.windows_of.ensures k) (c.whole_window.ensures k) n)
    ∙ cuts_told s (after s j) e (next_moved s (after s j)) new c.in_ok-told.told (whole_window change c.in_ok-told.told) n (after_kept s j (well_formed s good) run) le refl some none
    (whole_told s (after s j) change new c.in_ok-told.told n named refused ∙ ap (λ m. is_moved_whole s.width s.height (after s j).stack new m n) (ap (change_moved (after s j).stack) (sym there)))))
    (c.after-self-inside.ensures s (after s j) c.self.invariant.world)

pub returns-clause-took : goal.returns-clause-took
returns-clause-took c = rw (← c.self.view_is) (record { scene = refl; entries = c.push_reserved.ensures.items ∙ ap (λ xs. xs ++ Change c.args.place ∷ []) c.reserve.ensures.items })

pub returns-clause-deed : goal.returns-clause-deed
returns-clause-deed c =
    let i = c.self.inside in let s = i.scene.now in let j = i.entries.items in
    let there : slice_get s.changes (after s j).made ≡ Some c.get-change.result.now = ap (λ m. slice_get s.changes m) (sym c.self.invariant.world.made) ∙ c.get-change.ensures in
    let stack : stack_after c.get-change.result.now i.board.stack ≡ next_stack s (after s j) = ap (stack_after c.get-change.result.now) c.self.invariant.windows.windows ∙ ap (change_stack (after s j).stack) (sym there) in
    let new = next_stack s (after s j) in
    let goes : moved_by c.get-change.result.now i.board.stack ≡ next_moved s (after s j) = ap (moved_by c.get-change.result.now) c.self.invariant.windows.windows ∙ ap (change_moved (after s j).stack) (sym there) in
    let some = told_after s (after s j) (stack_after c.get-change.result.now i.board.stack) new (moved_by c.get-change.result.now i.board.stack) (next_moved s (after s j)) i.board c.in_ok-told.told c.self.invariant.windows stack goes c.in_ok-told.ensures.touched in
    let refused : is_none c.in_ok-told.told ≡ refuses_next s (after s j) = c.in_ok-told.ensures.refused ∙ ap (λ ws. is_some (refusal c.get-change.result.now ws)) c.self.invariant.windows.windows ∙ ap (is_refused (after s j).stack) (sym there) in
    subst (λ v. TellsStack v.scene (world_of v) (next_moved v.scene (world_of v)) (next_stack v.scene (world_of v)) (refuses_next v.scene (world_of v)) c.deed_told.result) c.self.view_is (subst (λ d. TellsStack s (after s j) (next_moved s (after s j)) new (refuses_next s (after s j)) d) (sym c.deed_told.ensures) (tells s (after s j) (next_moved s (after s j)) new (refuses_next s (after s j)) c.in_ok-told.told some refused))
