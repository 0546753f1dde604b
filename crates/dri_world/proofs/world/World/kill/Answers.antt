use Rattle.std.proofs.Common.{List, ◌≡◌, ◌<◌, ◌++◌, ◌∙◌, length, ap, sym, subst, rules}
use Rattle.std.specs.Prelude.{Contains, true}
use Rattle.dri_base.specs.Ranges.{client_numbers}
use Rattle.std.proofs.lemmas.Bool.{true≢false}
use Rattle.dri_base.specs.declared.scene.ClientScript.{ClientScript}
use Rattle.dri_base.specs.declared.scene.Scene.{Scene}
use Rattle.dri_base.specs.Scenes.{is_named}
use Rattle.dri_core.specs.Turns.{one_event}
use Rattle.dri_world.specs.Courses.{Course}
use Rattle.dri_world.proofs.Answering.{is_seated, dying_rests, kill_answers, kill_event, kill_held, kill_may, named_there, placed, stands_in, still_held, within_scene}
use Rattle.dri_world.proofs.Held.{same_run}
use Rattle.dri_world.proofs.world.World.kill.Goals as goal

pub invariant_of-self : goal.invariant_of-self
invariant_of-self c = same_run _ _ _ _ _ c.self.invariant c.reserve.ensures.run

pub invariant_of-self-in_err-reserve-2 : goal.invariant_of-self-in_err-reserve-2
invariant_of-self-in_err-reserve-2 c = rw c.reserve-2.ensures.items (same_run _ _ _ _ _ c.self.invariant c.reserve.ensures.run)

pub index_mut-killed-requires : goal.index_mut-killed-requires
index_mut-killed-requires c =
    let inside : c.in-Some.place < length c.self.inside.clients.items = within_scene _ _ _ _ _ _ c.self.invariant (placed _ _ _ _ _ c.deref.ensures c.as_slice.ensures c.in-Some.ensures.number) in
    search rules

pub kill_of-requires-clause-seated : goal.kill_of-requires-clause-seated
kill_of-requires-clause-seated c =
    is_seated _ _ _ _ _ _ _ (stands_in _ _ _ _ _ _ _ _ c.self.invariant c.reserve.ensures.run (placed _ _ _ _ _ c.deref.ensures c.as_slice.ensures c.in-Some.ensures.number) c.index_mut-killed.ensures.value) c.in_ok-reserve.ensures.ok

pub kill_of-requires-clause-legal : goal.kill_of-requires-clause-legal
kill_of-requires-clause-legal c =
    kill_may _ _ _ _ _ _ _ (stands_in _ _ _ _ _ _ _ _ c.self.invariant c.reserve.ensures.run (placed _ _ _ _ _ c.deref.ensures c.as_slice.ensures c.in-Some.ensures.number) c.index_mut-killed.ensures.value)
    (subst (λ (t : Course). is_named t.scene c.args.client ≡ true) (sym c.self.view_is) c.requires)

pub invariant_of-self-in_err-made : goal.invariant_of-self-in_err-made
invariant_of-self-in_err-made c =
    still_held _ _ _ _ _ _ _ (stands_in _ _ _ _ _ _ _ _ c.self.invariant c.reserve.ensures.run (placed _ _ _ _ _ c.deref.ensures c.as_slice.ensures c.in-Some.ensures.number) c.index_mut-killed.ensures.value)
    _ _ _ c.reserve-2.ensures.items c.in_err-made.ensures.err

pub invariant_of-self-2 : goal.invariant_of-self-2
invariant_of-self-2 c =
    kill_held _ _ _ _ _ _ _ (stands_in _ _ _ _ _ _ _ _ c.self.invariant c.reserve.ensures.run (placed _ _ _ _ _ c.deref.ensures c.as_slice.ensures c.in-Some.ensures.number) c.index_mut-killed.ensures.value)
    c.in_ok-made.made _ _ _ (subst (λ (t : Course). is_named t.scene c.args.client ≡ true) (sym c.self.view_is) c.requires) c.in_ok-made.ensures.event (c.note.ensures.events ∙ ap (λ t. t ++ one_event c.in_ok-made.made) c.reserve-2.ensures.items) c.in_ok-made.ensures.made

pub returns-clause-told : goal.returns-clause-told
returns-clause-told c =
    (kill_answers _ _ _ _ c.args.client c.in_ok-made.made c.note.result c.self.invariant.good c.self.invariant.run c.self.view_is
    (kill_event _ _ _ _ _ _ _ (stands_in _ _ _ _ _ _ _ _ c.self.invariant c.reserve.ensures.run (placed _ _ _ _ _ c.deref.ensures c.as_slice.ensures c.in-Some.ensures.number) c.index_mut-killed.ensures.value) c.in_ok-made.made c.in_ok-made.ensures.event)
    c.note.ensures.told (c.note.ensures.events ∙ ap (λ t. t ++ one_event c.in_ok-made.made) c.reserve-2.ensures.items)).told

pub returns-clause-made : goal.returns-clause-made
returns-clause-made c =
    (kill_answers _ _ _ _ c.args.client c.in_ok-made.made c.note.result c.self.invariant.good c.self.invariant.run c.self.view_is
    (kill_event _ _ _ _ _ _ _ (stands_in _ _ _ _ _ _ _ _ c.self.invariant c.reserve.ensures.run (placed _ _ _ _ _ c.deref.ensures c.as_slice.ensures c.in-Some.ensures.number) c.index_mut-killed.ensures.value) c.in_ok-made.made c.in_ok-made.ensures.event)
    c.note.ensures.told (c.note.ensures.events ∙ ap (λ t. t ++ one_event c.in_ok-made.made) c.reserve-2.ensures.items)).made

pub returns-clause-passed : goal.returns-clause-passed
returns-clause-passed c =
    (kill_answers _ _ _ _ c.args.client c.in_ok-made.made c.note.result c.self.invariant.good c.self.invariant.run c.self.view_is
    (kill_event _ _ _ _ _ _ _ (stands_in _ _ _ _ _ _ _ _ c.self.invariant c.reserve.ensures.run (placed _ _ _ _ _ c.deref.ensures c.as_slice.ensures c.in-Some.ensures.number) c.index_mut-killed.ensures.value) c.in_ok-made.made c.in_ok-made.ensures.event)
    c.note.ensures.told (c.note.ensures.events ∙ ap (λ t. t ++ one_event c.in_ok-made.made) c.reserve-2.ensures.items)).passed

pub kill_of-requires-clause-resting : goal.kill_of-requires-clause-resting
kill_of-requires-clause-resting c =
    dying_rests _ _ _ _ _ _ _ (stands_in _ _ _ _ _ _ _ _ c.self.invariant c.reserve.ensures.run (placed _ _ _ _ _ c.deref.ensures c.as_slice.ensures c.in-Some.ensures.number) c.index_mut-killed.ensures.value)

pub unreachable-requires : goal.unreachable-requires
unreachable-requires c =
    let there : Contains (client_numbers c.as_slice.result.now) c.args.client =
    subst (λ (ps : List ClientScript). Contains (client_numbers ps) c.args.client) (sym (c.as_slice.ensures ∙ ap (λ (x : Scene). x.clients) c.deref.ensures))
    (named_there _ _ c.args.client c.self.invariant.good.scheduled.each (subst (λ (t : Course). is_named t.scene c.args.client ≡ true) (sym c.self.view_is) c.requires)) in
    true≢false (sym (c.in_default.ensures.there.1 there))
