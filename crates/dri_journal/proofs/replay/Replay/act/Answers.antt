use Rattle.std.proofs.Common.{◌≡◌, ◌∙◌, ◌+◌, ◌≤◌, ◌==◌, not, refl, inl, sym, ap, subst, arith, ◌++◌, [], ◌∷◌}
use Rattle.std.specs.Prelude.{Contains, List}
use Rattle.std.proofs.lemmas.Option.{slice_get_within}
use Rattle.dri_base.specs.Ranges.{window_numbers}
use Rattle.dri_base.specs.Scenes.{script_of, window_of}
use Rattle.dri_base.specs.declared.scene.ClientScript.{ClientScript}
use Rattle.dri_base.specs.declared.scene.Window.{Window}
use Rattle.dri_client.specs.Kept.{IsKept, IsScript}
use Rattle.dri_client.specs.Parts.{next_command}
use Rattle.dri_client.proofs.Owned.{script_in_range}
use Rattle.dri_core.specs.EntryTable.{LegalEntry}
use Rattle.dri_core.specs.Runs.{after, client_of}
use Rattle.dri_journal.proofs.Counting.{counted, does, few_frames}
use Rattle.dri_journal.proofs.Legal.{Runs, may_act, ran_command, used, uses}
use Rattle.dri_journal.proofs.Keeping.{board_stays, faithful, part_found, parts_step, some_one}
use Rattle.dri_core.proofs.Bounds.{made_bounded}
use Rattle.dri_core.proofs.RunLaws.{acting_current, intact}
use Rattle.dri_meaning.specs.Reports.{tally}
use Rattle.dri_texheap.specs.RegionStates.{heap_of}
use Rattle.dri_journal.specs.Deeds.{Does, deed_by}
use Rattle.std.proofs.Math.ListN.{set}
use Rattle.dri_journal.proofs.Whom.{found, has_number, has_window, is_there, quiet_clients, small_number, some_commands}
use Rattle.dri_journal.specs.Acts.{MayAct, UsesRegions, heap_by}
use Rattle.dri_journal.specs.Replays.{MayTake, world_of}
use Rattle.dri_journal.proofs.replay.Replay.act.Goals as goal

pub unwrap-at-requires : goal.unwrap-at-requires
unwrap-at-requires c =
    let i = c.self.inside in let s = i.scene.now in let j = i.entries.items in let e = c.args.entry.now in let good = c.self.invariant.scene in let run = c.self.invariant.run in
    let legal : LegalEntry s (after s j) e = subst (λ v. MayTake v e) (sym c.self.view_is) c.requires.legal in
    is_there s c.as_slice.result.now c.place_of.result c.client_of-client.result (client_of e) c.as_slice.ensures c.client_of-client.ensures c.place_of.ensures.there (has_number s j good run (client_of e) (some_commands s j good run e (quiet_clients e c.requires.quiet) legal))

pub get-script-requires : goal.get-script-requires
get-script-requires c =
    let s = c.self.inside.scene.now in let e = c.args.entry.now in
    slice_get_within s.clients c.unwrap-at.result (script_of s (client_of e)) (found s c.as_slice.result.now c.place_of.result c.unwrap-at.result c.client_of-client.result (client_of e) c.unwrap-at.ensures c.as_slice.ensures c.client_of-client.ensures c.place_of.ensures.script)

pub stamp-stamp-requires : goal.stamp-stamp-requires
stamp-stamp-requires c =
    let i = c.self.inside in let s = i.scene.now in let j = i.entries.items in let e = c.args.entry.now in let good = c.self.invariant.scene in let run = c.self.invariant.run in
    let legal : LegalEntry s (after s j) e = subst (λ v. MayTake v e) (sym c.self.view_is) c.requires.legal in
    let there = found s c.as_slice.result.now c.place_of.result c.unwrap-at.result c.client_of-client.result (client_of e) c.unwrap-at.ensures c.as_slice.ensures c.client_of-client.ensures c.place_of.ensures.script in
    let script : script_of s (client_of e) ≡ c.get-script.result.now = some_one (sym there ∙ c.get-script.ensures) in
    subst (λ (p : ClientScript). Contains (window_numbers i.board.stack) p.window) script (subst (λ (ws : List Window). Contains (window_numbers ws) (window_of s (client_of e))) (sym c.self.invariant.windows.windows) (has_window s j good run (client_of e) (some_commands s j good run e (quiet_clients e c.requires.quiet) legal)))

pub overflow_add-is_new_owner : goal.overflow_add-is_new_owner
overflow_add-is_new_owner c =
    let s = c.self.inside.scene.now in let e = c.args.entry.now in
    let there = found s c.as_slice.result.now c.place_of.result c.unwrap-at.result c.client_of-client.result (client_of e) c.unwrap-at.ensures c.as_slice.ensures c.client_of-client.ensures c.place_of.ensures.script in
    let small : client_of e ≤ 32 = small_number s c.self.inside.entries.items c.self.invariant.scene c.self.invariant.run (client_of e) c.unwrap-at.result there in
    omega (arith, small, c.client_of-client.ensures)

pub index_mut-part-requires : goal.index_mut-part-requires
index_mut-part-requires c =
    let s = c.self.inside.scene.now in
    let below = slice_get_within s.clients c.unwrap-at.result c.get-script.result.now c.get-script.ensures in
    omega (arith, below, c.self.invariant.clients.room, c.self.inside.parts.ok)

pub use_regions-requires : goal.use_regions-requires
use_regions-requires c =
    let i = c.self.inside in let s = i.scene.now in let j = i.entries.items in let e = c.args.entry.now in let n = client_of e in let at = c.unwrap-at.result in let good = c.self.invariant.scene in let run = c.self.invariant.run in
    let legal : LegalEntry s (after s j) e = subst (λ v. MayTake v e) (sym c.self.view_is) c.requires.legal in
    let there = found s c.as_slice.result.now c.place_of.result at c.client_of-client.result n c.unwrap-at.ensures c.as_slice.ensures c.client_of-client.ensures c.place_of.ensures.script in
    let script : script_of s n ≡ c.get-script.result.now = some_one (sym there ∙ c.get-script.ensures) in
    let part = c.index_mut-part.result.now in
    let own = part_found s (after s j) n at i.parts.items part c.self.invariant.clients there c.index_mut-part.ensures.value in
    subst (λ (p : ClientScript). UsesRegions p part i.regions e) script (uses s j good run n part own.0 own.1 own.2 i.regions c.self.invariant.memory e refl c.requires.quiet legal)

pub act-requires-clause-script : goal.act-requires-clause-script
act-requires-clause-script c =
    let i = c.self.inside in let s = i.scene.now in let j = i.entries.items in let e = c.args.entry.now in let n = client_of e in let at = c.unwrap-at.result in let good = c.self.invariant.scene in let run = c.self.invariant.run in
    let legal : LegalEntry s (after s j) e = subst (λ v. MayTake v e) (sym c.self.view_is) c.requires.legal in
    let there = found s c.as_slice.result.now c.place_of.result at c.client_of-client.result n c.unwrap-at.ensures c.as_slice.ensures c.client_of-client.ensures c.place_of.ensures.script in
    let script : script_of s n ≡ c.get-script.result.now = some_one (sym there ∙ c.get-script.ensures) in
    subst IsScript script (script_in_range s n at good there)

pub act-requires-clause-kept : goal.act-requires-clause-kept
act-requires-clause-kept c =
    let i = c.self.inside in let s = i.scene.now in let j = i.entries.items in let e = c.args.entry.now in let n = client_of e in let at = c.unwrap-at.result in let good = c.self.invariant.scene in let run = c.self.invariant.run in
    let legal : LegalEntry s (after s j) e = subst (λ v. MayTake v e) (sym c.self.view_is) c.requires.legal in
    let there = found s c.as_slice.result.now c.place_of.result at c.client_of-client.result n c.unwrap-at.ensures c.as_slice.ensures c.client_of-client.ensures c.place_of.ensures.script in
    let script : script_of s n ≡ c.get-script.result.now = some_one (sym there ∙ c.get-script.ensures) in
    let part = c.index_mut-part.result.now in
    let own = part_found s (after s j) n at i.parts.items part c.self.invariant.clients there c.index_mut-part.ensures.value in
    subst (λ (p : ClientScript). IsKept p c.use_regions.new.regions.count part) script (subst (λ m. IsKept (script_of s n) m part) (sym (c.use_regions.ensures.count ∙ c.self.invariant.memory.count)) own.1)

pub act-requires-clause-may : goal.act-requires-clause-may
act-requires-clause-may c =
    let i = c.self.inside in let s = i.scene.now in let j = i.entries.items in let e = c.args.entry.now in let n = client_of e in let at = c.unwrap-at.result in let good = c.self.invariant.scene in let run = c.self.invariant.run in
    let legal : LegalEntry s (after s j) e = subst (λ v. MayTake v e) (sym c.self.view_is) c.requires.legal in
    let there = found s c.as_slice.result.now c.place_of.result at c.client_of-client.result n c.unwrap-at.ensures c.as_slice.ensures c.client_of-client.ensures c.place_of.ensures.script in
    let script : script_of s n ≡ c.get-script.result.now = some_one (sym there ∙ c.get-script.ensures) in
    let part = c.index_mut-part.result.now in
    let own = part_found s (after s j) n at i.parts.items part c.self.invariant.clients there c.index_mut-part.ensures.value in
    subst (λ (p : ClientScript). MayAct p c.use_regions.new.regions.count part e) script (subst (λ m. MayAct (script_of s n) m part e) (sym (c.use_regions.ensures.count ∙ c.self.invariant.memory.count)) (may_act s j good run n part own.0 own.1 own.2 e refl c.requires.quiet legal))

pub ran-requires-clause-there : goal.ran-requires-clause-there
ran-requires-clause-there c =
    let s = c.self.inside.scene.now in
    let below = slice_get_within s.clients c.unwrap-at.result c.get-script.result.now c.get-script.ensures in
    omega (arith, below, c.self.invariant.counts.room)

pub ran-requires-clause-frames : goal.ran-requires-clause-frames
ran-requires-clause-frames c =
    let i = c.self.inside in
    omega (arith, c.self.invariant.counts.frames, (few_frames i.scene.now i.entries.items).0, i.entries.ok.0, i.entries.ok.1, i.entries.small)

pub ran-requires-clause-stood : goal.ran-requires-clause-stood
ran-requires-clause-stood c =
    let i = c.self.inside in
    omega (arith, c.self.invariant.counts.stood, (few_frames i.scene.now i.entries.items).1, i.entries.ok.0, i.entries.ok.1, i.entries.small)

pub after-self-inside-requires-clause-client : goal.after-self-inside-requires-clause-client
after-self-inside-requires-clause-client c =
    let i = c.self.inside in let s = i.scene.now in let j = i.entries.items in let e = c.args.entry.now in let n = client_of e in let at = c.unwrap-at.result in let good = c.self.invariant.scene in let run = c.self.invariant.run in
    let legal : LegalEntry s (after s j) e = subst (λ v. MayTake v e) (sym c.self.view_is) c.requires.legal in
    let there = found s c.as_slice.result.now c.place_of.result at c.client_of-client.result n c.unwrap-at.ensures c.as_slice.ensures c.client_of-client.ensures c.place_of.ensures.script in
    let script : script_of s n ≡ c.get-script.result.now = some_one (sym there ∙ c.get-script.ensures) in
    small_number s j good run n at there

pub after-self-inside-requires-clause-made : goal.after-self-inside-requires-clause-made
after-self-inside-requires-clause-made c =
    let i = c.self.inside in let s = i.scene.now in let j = i.entries.items in let good = c.self.invariant.scene in
    omega (arith, c.self.invariant.world.made, made_bounded s j good c.self.invariant.run, good.changed.few)

pub invariant_of-self-2 : goal.invariant_of-self-2
invariant_of-self-2 c =
    let i = c.self.inside in let s = i.scene.now in let j = i.entries.items in let e = c.args.entry.now in let n = client_of e in let at = c.unwrap-at.result in let good = c.self.invariant.scene in let run = c.self.invariant.run in
    let legal : LegalEntry s (after s j) e = subst (λ v. MayTake v e) (sym c.self.view_is) c.requires.legal in
    let there = found s c.as_slice.result.now c.place_of.result at c.client_of-client.result n c.unwrap-at.ensures c.as_slice.ensures c.client_of-client.ensures c.place_of.ensures.script in
    let script : script_of s n ≡ c.get-script.result.now = some_one (sym there ∙ c.get-script.ensures) in
    let part = c.index_mut-part.result.now in
    let own = part_found s (after s j) n at i.parts.items part c.self.invariant.clients there c.index_mut-part.ensures.value in
    let next : c.next_command-command.result ≡ next_command (script_of s n) part = c.next_command-command.ensures ∙ ap (λ (p : ClientScript). next_command p part) (sym script) in
    let heap : heap_of c.use_regions.new.regions ≡ heap_by (script_of s n) part i.regions.count (heap_of i.regions) e = c.use_regions.ensures.heap ∙ (λ k. heap_by (sym script k) part i.regions.count (heap_of i.regions) e) in
    let regions = used s j good run n part own.0 own.1 own.2 i.regions c.self.invariant.memory e c.use_regions.new.regions refl c.requires.quiet legal c.use_regions.ensures.count heap in
    let stamp : c.stamp-stamp.result ≡ (after s j).stamps (window_of s n) = c.stamp-stamp.ensures ∙ (λ k. c.self.invariant.windows.given k (sym script k).window) in
    let agrees = c.act.ensures.part s (after s j) (sym script) (sym own.2) own.0 legal stamp (λ k. not (c.self.invariant.world.owner k == c.client_of-client.ensures k + 1)) (intact s j good run) (λ acts. acting_current s j good run n (inl acts)) regions in
    let kept : IsKept (script_of s n) s.regions c.act.new.part = subst (λ m. IsKept (script_of s n) m c.act.new.part) (c.use_regions.ensures.count ∙ c.self.invariant.memory.count) (subst (λ (p : ClientScript). IsKept p c.use_regions.new.regions.count c.act.new.part) (sym script) c.act.ensures.kept) in
    let runs = subst (λ o. Runs s e o) (sym next) (ran_command s j good run n part own.0 own.1 own.2 e refl legal) in
    faithful s j c.push_reserved.new.self.items e i.board i.board i.regions c.use_regions.new.regions i.parts.items (set i.parts.items at c.act.new.part) i.tally c.ran.new.self i.marks c.after-self-inside.result
    c.self.invariant legal (c.push_reserved.ensures.items ∙ ap (λ xs. xs ++ e ∷ []) c.reserve.ensures.items)
    (board_stays s (after s j) e i.board c.requires.quiet c.self.invariant.windows) regions
    (parts_step s (after s j) e n at i.parts.items c.act.new.part good refl there c.self.invariant.clients agrees kept (c.act.ensures.size ∙ own.2))
    (counted s (tally s j) n at c.ran_by-ran.result i.tally c.ran.new.self good there c.self.invariant.counts c.ran.ensures.frames c.ran.ensures.stood c.ran.ensures.others c.ran.ensures.own c.ran.ensures.room (after s j) e c.next_command-command.result refl c.requires.quiet c.ran_by-ran.ensures runs)
    (c.after-self-inside.ensures s (after s j) c.self.invariant.world)

pub returns-clause-deed : goal.returns-clause-deed
returns-clause-deed c =
    let i = c.self.inside in let s = i.scene.now in let j = i.entries.items in let e = c.args.entry.now in let n = client_of e in let at = c.unwrap-at.result in let good = c.self.invariant.scene in let run = c.self.invariant.run in
    let legal : LegalEntry s (after s j) e = subst (λ v. MayTake v e) (sym c.self.view_is) c.requires.legal in
    let there = found s c.as_slice.result.now c.place_of.result at c.client_of-client.result n c.unwrap-at.ensures c.as_slice.ensures c.client_of-client.ensures c.place_of.ensures.script in
    let script : script_of s n ≡ c.get-script.result.now = some_one (sym there ∙ c.get-script.ensures) in
    let part = c.index_mut-part.result.now in
    let own = part_found s (after s j) n at i.parts.items part c.self.invariant.clients there c.index_mut-part.ensures.value in
    let next : c.next_command-command.result ≡ next_command (script_of s n) part = c.next_command-command.ensures ∙ ap (λ (p : ClientScript). next_command p part) (sym script) in
    let runs = subst (λ o. Runs s e o) (sym next) (ran_command s j good run n part own.0 own.1 own.2 e refl legal) in
    subst (λ v. Does v.scene (world_of v) e c.deed_by.result) c.self.view_is (subst (λ d. Does s (after s j) e d) (sym (c.deed_by.ensures ∙ ap deed_by c.ran_by-ran.ensures)) (does s (after s j) e c.next_command-command.result c.requires.quiet runs))
