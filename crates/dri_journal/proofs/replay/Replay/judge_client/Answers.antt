use Rattle.std.proofs.Common.{◌≡◌, ◌∙◌, ◌≤◌, ◌<◌, Some, sym, subst, arith}
use Rattle.std.specs.Prelude.{slice_get, ◌&&◌, ◌||◌, is_none}
use Rattle.dri_base.proofs.RegionSizes.{region_size_above, region_size_within}
use Rattle.dri_client.specs.Parts.{next_command}
use Rattle.dri_client.specs.Textures.{bytes_in}
use Rattle.dri_core.specs.Decide.{is_die}
use Rattle.dri_core.specs.Phases.{In, is_done, is_holding, same_phase}
use Rattle.dri_base.specs.Scenes.{kills_in, script_of}
use Rattle.dri_base.specs.declared.scene.ClientScript.{ClientScript}
use Rattle.dri_base.proofs.RangeLemmas.{well_formed}
use Rattle.dri_core.specs.Runs.{after, client_of}
use Rattle.dri_core.proofs.Bounds.{made_bounded}
use Rattle.dri_journal.proofs.Judged.{emit, gone, info, kernel, leave, light, place, stale, texture_small}
use Rattle.dri_core.proofs.Decide.{number_is}
use Rattle.dri_journal.proofs.Judged as Judged
use Rattle.dri_journal.proofs.Keeping.{part_found, some_one}
use Rattle.dri_journal.proofs.Legal.{age_small, needed_bytes}
use Rattle.dri_journal.proofs.Whom.{small_number}
use Rattle.dri_journal.specs.Reasons.{first_unmet, told_reason, ways_to_go}
use Rattle.dri_journal.specs.Replays.{ReplayState}
use Rattle.dri_journal.proofs.replay.Replay.judge_client.Goals as goal

pub light-requires : goal.light-requires
light-requires c =
    let i = c.self.inside in let s = i.scene.now in let j = i.entries.items in let at = c.args.at in let good = c.self.invariant.scene in let run = c.self.invariant.run in
    let requires : slice_get s.clients at ≡ Some (script_of s (client_of c.args.entry.now)) = subst (λ (v : ReplayState). slice_get v.scene.clients at ≡ Some (script_of v.scene (client_of c.args.entry.now))) (sym c.self.view_is) c.requires in
    let n = c.in-Light.client in
    let there : slice_get s.clients at ≡ Some (script_of s n) = subst (λ x. slice_get s.clients at ≡ Some (script_of s (client_of x))) c.in-Light.is requires in
    small_number s j good run n at there

pub kernel-requires : goal.kernel-requires
kernel-requires c =
    let i = c.self.inside in let s = i.scene.now in let j = i.entries.items in let at = c.args.at in let good = c.self.invariant.scene in let run = c.self.invariant.run in
    let requires : slice_get s.clients at ≡ Some (script_of s (client_of c.args.entry.now)) = subst (λ (v : ReplayState). slice_get v.scene.clients at ≡ Some (script_of v.scene (client_of c.args.entry.now))) (sym c.self.view_is) c.requires in
    let n = c.in-Kernel.client in
    let there : slice_get s.clients at ≡ Some (script_of s n) = subst (λ x. slice_get s.clients at ≡ Some (script_of s (client_of x))) c.in-Kernel.is requires in
    small_number s j good run n at there

pub change-requires : goal.change-requires
change-requires c =
    let i = c.self.inside in
    omega (arith, c.self.invariant.world.made, made_bounded i.scene.now i.entries.items c.self.invariant.scene c.self.invariant.run, c.self.invariant.scene.changed.few)

pub place-requires-clause-some : goal.place-requires-clause-some
place-requires-clause-some c =
    let i = c.self.inside in let s = i.scene.now in let j = i.entries.items in let at = c.args.at in let good = c.self.invariant.scene in let run = c.self.invariant.run in
    let requires : slice_get s.clients at ≡ Some (script_of s (client_of c.args.entry.now)) = subst (λ (v : ReplayState). slice_get v.scene.clients at ≡ Some (script_of v.scene (client_of c.args.entry.now))) (sym c.self.view_is) c.requires in
    let n = c.in-Place.client in
    let there : slice_get s.clients at ≡ Some (script_of s n) = subst (λ x. slice_get s.clients at ≡ Some (script_of s (client_of x))) c.in-Place.is requires in
    let script : c.get-script.result.now ≡ script_of s n = some_one (sym c.get-script.ensures ∙ there) in
    let part = c.index-part.result.now in
    let own = part_found s (after s j) n at i.parts.items part c.self.invariant.clients there c.index-part.ensures in
    rw own.2 (region_size_above s.region_size good.card.sized)

pub place-requires-clause-size : goal.place-requires-clause-size
place-requires-clause-size c =
    let i = c.self.inside in let s = i.scene.now in let j = i.entries.items in let at = c.args.at in let good = c.self.invariant.scene in let run = c.self.invariant.run in
    let requires : slice_get s.clients at ≡ Some (script_of s (client_of c.args.entry.now)) = subst (λ (v : ReplayState). slice_get v.scene.clients at ≡ Some (script_of v.scene (client_of c.args.entry.now))) (sym c.self.view_is) c.requires in
    let n = c.in-Place.client in
    let there : slice_get s.clients at ≡ Some (script_of s n) = subst (λ x. slice_get s.clients at ≡ Some (script_of s (client_of x))) c.in-Place.is requires in
    let script : c.get-script.result.now ≡ script_of s n = some_one (sym c.get-script.ensures ∙ there) in
    let part = c.index-part.result.now in
    let own = part_found s (after s j) n at i.parts.items part c.self.invariant.clients there c.index-part.ensures in
    rw own.2 (region_size_within s.region_size good.card.sized).1

pub place-requires-clause-bytes : goal.place-requires-clause-bytes
place-requires-clause-bytes c =
    let i = c.self.inside in let s = i.scene.now in let j = i.entries.items in let at = c.args.at in let good = c.self.invariant.scene in let run = c.self.invariant.run in
    let requires : slice_get s.clients at ≡ Some (script_of s (client_of c.args.entry.now)) = subst (λ (v : ReplayState). slice_get v.scene.clients at ≡ Some (script_of v.scene (client_of c.args.entry.now))) (sym c.self.view_is) c.requires in
    let n = c.in-Place.client in
    let there : slice_get s.clients at ≡ Some (script_of s n) = subst (λ x. slice_get s.clients at ≡ Some (script_of s (client_of x))) c.in-Place.is requires in
    let script : c.get-script.result.now ≡ script_of s n = some_one (sym c.get-script.ensures ∙ there) in
    let part = c.index-part.result.now in
    let own = part_found s (after s j) n at i.parts.items part c.self.invariant.clients there c.index-part.ensures in
    subst (λ (p : ClientScript). bytes_in p c.in-Place.texture ≤ 4194304) (sym script) (texture_small s n c.in-Place.texture good)

pub place-requires-clause-needed : goal.place-requires-clause-needed
place-requires-clause-needed c =
    let i = c.self.inside in let s = i.scene.now in let j = i.entries.items in let at = c.args.at in let good = c.self.invariant.scene in let run = c.self.invariant.run in
    let requires : slice_get s.clients at ≡ Some (script_of s (client_of c.args.entry.now)) = subst (λ (v : ReplayState). slice_get v.scene.clients at ≡ Some (script_of v.scene (client_of c.args.entry.now))) (sym c.self.view_is) c.requires in
    let n = c.in-Place.client in
    let there : slice_get s.clients at ≡ Some (script_of s n) = subst (λ x. slice_get s.clients at ≡ Some (script_of s (client_of x))) c.in-Place.is requires in
    let script : c.get-script.result.now ≡ script_of s n = some_one (sym c.get-script.ensures ∙ there) in
    let part = c.index-part.result.now in
    let own = part_found s (after s j) n at i.parts.items part c.self.invariant.clients there c.index-part.ensures in
    rw (script, own.2, c.self.invariant.memory.count) ((well_formed s good).heap n c.in-Place.texture)

pub place-requires-clause-there : goal.place-requires-clause-there
place-requires-clause-there c =
    let i = c.self.inside in let s = i.scene.now in let j = i.entries.items in let at = c.args.at in let good = c.self.invariant.scene in let run = c.self.invariant.run in
    let requires : slice_get s.clients at ≡ Some (script_of s (client_of c.args.entry.now)) = subst (λ (v : ReplayState). slice_get v.scene.clients at ≡ Some (script_of v.scene (client_of c.args.entry.now))) (sym c.self.view_is) c.requires in
    let n = c.in-Place.client in
    let there : slice_get s.clients at ≡ Some (script_of s n) = subst (λ x. slice_get s.clients at ≡ Some (script_of s (client_of x))) c.in-Place.is requires in
    let script : c.get-script.result.now ≡ script_of s n = some_one (sym c.get-script.ensures ∙ there) in
    let part = c.index-part.result.now in
    let own = part_found s (after s j) n at i.parts.items part c.self.invariant.clients there c.index-part.ensures in
    λ same. subst (λ (p : ClientScript). 0 < bytes_in p c.in-Place.texture) (sym script) (needed_bytes s n c.in-Place.texture part good own.1 (number_is _ c.in-Place.texture same))

pub place-requires-clause-age : goal.place-requires-clause-age
place-requires-clause-age c =
    let i = c.self.inside in let s = i.scene.now in let j = i.entries.items in let at = c.args.at in let good = c.self.invariant.scene in let run = c.self.invariant.run in
    let requires : slice_get s.clients at ≡ Some (script_of s (client_of c.args.entry.now)) = subst (λ (v : ReplayState). slice_get v.scene.clients at ≡ Some (script_of v.scene (client_of c.args.entry.now))) (sym c.self.view_is) c.requires in
    let n = c.in-Place.client in
    let there : slice_get s.clients at ≡ Some (script_of s n) = subst (λ x. slice_get s.clients at ≡ Some (script_of s (client_of x))) c.in-Place.is requires in
    let script : c.get-script.result.now ≡ script_of s n = some_one (sym c.get-script.ensures ∙ there) in
    let part = c.index-part.result.now in
    let own = part_found s (after s j) n at i.parts.items part c.self.invariant.clients there c.index-part.ensures in
    age_small s j good run n part own.0 own.1 own.2 i.regions c.self.invariant.memory

pub returns-in-Light : goal.returns-in-Light
returns-in-Light c =
    let i = c.self.inside in let s = i.scene.now in let j = i.entries.items in let at = c.args.at in let good = c.self.invariant.scene in let run = c.self.invariant.run in
    let requires : slice_get s.clients at ≡ Some (script_of s (client_of c.args.entry.now)) = subst (λ (v : ReplayState). slice_get v.scene.clients at ≡ Some (script_of v.scene (client_of c.args.entry.now))) (sym c.self.view_is) c.requires in
    let n = c.in-Light.client in
    let there : slice_get s.clients at ≡ Some (script_of s n) = subst (λ x. slice_get s.clients at ≡ Some (script_of s (client_of x))) c.in-Light.is requires in
    let script : c.get-script.result.now ≡ script_of s n = some_one (sym c.get-script.ensures ∙ there) in
    let part = c.index-part.result.now in
    let own = part_found s (after s j) n at i.parts.items part c.self.invariant.clients there c.index-part.ensures in
    rw (← c.self.view_is, c.in-Light.is) (c.light.ensures ∙ light s (after s j) n c.get-script.result.now part i.marks script own.0 c.self.invariant.world)

pub returns-in-Kernel : goal.returns-in-Kernel
returns-in-Kernel c =
    let i = c.self.inside in let s = i.scene.now in let j = i.entries.items in let at = c.args.at in let good = c.self.invariant.scene in let run = c.self.invariant.run in
    let requires : slice_get s.clients at ≡ Some (script_of s (client_of c.args.entry.now)) = subst (λ (v : ReplayState). slice_get v.scene.clients at ≡ Some (script_of v.scene (client_of c.args.entry.now))) (sym c.self.view_is) c.requires in
    let n = c.in-Kernel.client in
    let there : slice_get s.clients at ≡ Some (script_of s n) = subst (λ x. slice_get s.clients at ≡ Some (script_of s (client_of x))) c.in-Kernel.is requires in
    let script : c.get-script.result.now ≡ script_of s n = some_one (sym c.get-script.ensures ∙ there) in
    let part = c.index-part.result.now in
    let own = part_found s (after s j) n at i.parts.items part c.self.invariant.clients there c.index-part.ensures in
    rw (← c.self.view_is, c.in-Kernel.is) (c.kernel.ensures ∙ kernel s (after s j) n c.get-script.result.now part i.marks script own.0 c.self.invariant.world c.in-Kernel.found)

pub returns-in-Stale : goal.returns-in-Stale
returns-in-Stale c =
    let i = c.self.inside in let s = i.scene.now in let j = i.entries.items in let at = c.args.at in let good = c.self.invariant.scene in let run = c.self.invariant.run in
    let requires : slice_get s.clients at ≡ Some (script_of s (client_of c.args.entry.now)) = subst (λ (v : ReplayState). slice_get v.scene.clients at ≡ Some (script_of v.scene (client_of c.args.entry.now))) (sym c.self.view_is) c.requires in
    let n = c.in-Stale.client in
    let there : slice_get s.clients at ≡ Some (script_of s n) = subst (λ x. slice_get s.clients at ≡ Some (script_of s (client_of x))) c.in-Stale.is requires in
    let script : c.get-script.result.now ≡ script_of s n = some_one (sym c.get-script.ensures ∙ there) in
    let part = c.index-part.result.now in
    let own = part_found s (after s j) n at i.parts.items part c.self.invariant.clients there c.index-part.ensures in
    rw (← c.self.view_is, c.in-Stale.is) (c.stale.ensures ∙ stale s (after s j) n c.get-script.result.now part i.marks script own.0 c.self.invariant.world)

pub returns-in-Leave : goal.returns-in-Leave
returns-in-Leave c =
    let i = c.self.inside in let s = i.scene.now in let j = i.entries.items in let at = c.args.at in let good = c.self.invariant.scene in let run = c.self.invariant.run in
    let requires : slice_get s.clients at ≡ Some (script_of s (client_of c.args.entry.now)) = subst (λ (v : ReplayState). slice_get v.scene.clients at ≡ Some (script_of v.scene (client_of c.args.entry.now))) (sym c.self.view_is) c.requires in
    let n = c.in-Leave.client in
    let there : slice_get s.clients at ≡ Some (script_of s n) = subst (λ x. slice_get s.clients at ≡ Some (script_of s (client_of x))) c.in-Leave.is requires in
    let script : c.get-script.result.now ≡ script_of s n = some_one (sym c.get-script.ensures ∙ there) in
    let part = c.index-part.result.now in
    let own = part_found s (after s j) n at i.parts.items part c.self.invariant.clients there c.index-part.ensures in
    rw (← c.self.view_is, c.in-Leave.is) (c.leave.ensures ∙ leave s (after s j) n c.get-script.result.now part i.marks script own.0 c.self.invariant.world)

pub returns-in-Info : goal.returns-in-Info
returns-in-Info c =
    let i = c.self.inside in let s = i.scene.now in let j = i.entries.items in let at = c.args.at in let good = c.self.invariant.scene in let run = c.self.invariant.run in
    let requires : slice_get s.clients at ≡ Some (script_of s (client_of c.args.entry.now)) = subst (λ (v : ReplayState). slice_get v.scene.clients at ≡ Some (script_of v.scene (client_of c.args.entry.now))) (sym c.self.view_is) c.requires in
    let n = c.in-Info.client in
    let there : slice_get s.clients at ≡ Some (script_of s n) = subst (λ x. slice_get s.clients at ≡ Some (script_of s (client_of x))) c.in-Info.is requires in
    let script : c.get-script.result.now ≡ script_of s n = some_one (sym c.get-script.ensures ∙ there) in
    let part = c.index-part.result.now in
    let own = part_found s (after s j) n at i.parts.items part c.self.invariant.clients there c.index-part.ensures in
    rw (← c.self.view_is, c.in-Info.is) (c.info.ensures ∙ info s (after s j) n c.get-script.result.now part i.marks script own.0 c.self.invariant.world)

pub returns-in-Emit : goal.returns-in-Emit
returns-in-Emit c =
    let i = c.self.inside in let s = i.scene.now in let j = i.entries.items in let at = c.args.at in let good = c.self.invariant.scene in let run = c.self.invariant.run in
    let requires : slice_get s.clients at ≡ Some (script_of s (client_of c.args.entry.now)) = subst (λ (v : ReplayState). slice_get v.scene.clients at ≡ Some (script_of v.scene (client_of c.args.entry.now))) (sym c.self.view_is) c.requires in
    let n = c.in-Emit.client in
    let there : slice_get s.clients at ≡ Some (script_of s n) = subst (λ x. slice_get s.clients at ≡ Some (script_of s (client_of x))) c.in-Emit.is requires in
    let script : c.get-script.result.now ≡ script_of s n = some_one (sym c.get-script.ensures ∙ there) in
    let part = c.index-part.result.now in
    let own = part_found s (after s j) n at i.parts.items part c.self.invariant.clients there c.index-part.ensures in
    rw (← c.self.view_is, c.in-Emit.is) (c.emit.ensures ∙ emit s (after s j) n c.get-script.result.now part i.marks script own.0 c.self.invariant.world c.in-Emit.groups)

pub returns-in-Run : goal.returns-in-Run
returns-in-Run c =
    let i = c.self.inside in let s = i.scene.now in let j = i.entries.items in let at = c.args.at in let good = c.self.invariant.scene in let run = c.self.invariant.run in
    let requires : slice_get s.clients at ≡ Some (script_of s (client_of c.args.entry.now)) = subst (λ (v : ReplayState). slice_get v.scene.clients at ≡ Some (script_of v.scene (client_of c.args.entry.now))) (sym c.self.view_is) c.requires in
    let n = c.in-Run.client in
    let there : slice_get s.clients at ≡ Some (script_of s n) = subst (λ x. slice_get s.clients at ≡ Some (script_of s (client_of x))) c.in-Run.is requires in
    let script : c.get-script.result.now ≡ script_of s n = some_one (sym c.get-script.ensures ∙ there) in
    let part = c.index-part.result.now in
    let own = part_found s (after s j) n at i.parts.items part c.self.invariant.clients there c.index-part.ensures in
    rw (← c.self.view_is, c.in-Run.is) (c.run.ensures ∙ Judged.run s (after s j) n c.get-script.result.now part i.marks script own.0 c.self.invariant.world c.in-Run.place)

pub returns-in-Gone : goal.returns-in-Gone
returns-in-Gone c =
    let i = c.self.inside in let s = i.scene.now in let j = i.entries.items in let at = c.args.at in let good = c.self.invariant.scene in let run = c.self.invariant.run in
    let requires : slice_get s.clients at ≡ Some (script_of s (client_of c.args.entry.now)) = subst (λ (v : ReplayState). slice_get v.scene.clients at ≡ Some (script_of v.scene (client_of c.args.entry.now))) (sym c.self.view_is) c.requires in
    let n = c.in-Gone.client in
    let there : slice_get s.clients at ≡ Some (script_of s n) = subst (λ x. slice_get s.clients at ≡ Some (script_of s (client_of x))) c.in-Gone.is requires in
    let script : c.get-script.result.now ≡ script_of s n = some_one (sym c.get-script.ensures ∙ there) in
    let part = c.index-part.result.now in
    let own = part_found s (after s j) n at i.parts.items part c.self.invariant.clients there c.index-part.ensures in
    rw (← c.self.view_is, c.in-Gone.is) (subst (λ items. told_reason c.gone.result ≡ first_unmet (ways_to_go (same_phase part.phase In && is_die (next_command c.get-script.result.now part)) (kills_in items c.get-script.result.now.number) (is_done part.phase) (is_holding part.phase || is_none i.marks.holder))) c.as_slice.ensures c.gone.ensures ∙ gone s (after s j) n c.get-script.result.now part i.marks script own.0 c.self.invariant.world)

pub returns-in-Place : goal.returns-in-Place
returns-in-Place c =
    let i = c.self.inside in let s = i.scene.now in let j = i.entries.items in let at = c.args.at in let good = c.self.invariant.scene in let run = c.self.invariant.run in
    let requires : slice_get s.clients at ≡ Some (script_of s (client_of c.args.entry.now)) = subst (λ (v : ReplayState). slice_get v.scene.clients at ≡ Some (script_of v.scene (client_of c.args.entry.now))) (sym c.self.view_is) c.requires in
    let n = c.in-Place.client in
    let there : slice_get s.clients at ≡ Some (script_of s n) = subst (λ x. slice_get s.clients at ≡ Some (script_of s (client_of x))) c.in-Place.is requires in
    let script : c.get-script.result.now ≡ script_of s n = some_one (sym c.get-script.ensures ∙ there) in
    let part = c.index-part.result.now in
    let own = part_found s (after s j) n at i.parts.items part c.self.invariant.clients there c.index-part.ensures in
    rw (← c.self.view_is, c.in-Place.is) (c.place.ensures ∙ place s (after s j) n c.get-script.result.now part i.marks script own.0 c.self.invariant.world c.in-Place.texture c.in-Place.first c.in-Place.count i.regions own.2 c.self.invariant.memory)
