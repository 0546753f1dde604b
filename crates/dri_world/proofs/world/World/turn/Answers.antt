use Rattle.std.proofs.Common.{◌<◌, ◌++◌, ◌∙◌, length, ap, rules}
use Rattle.dri_core.specs.Turns.{one_event}
use Rattle.dri_world.proofs.Answering.{is_seated, placed, stands_in, still_held, turn_answers, turn_event, turn_held, turn_may, within_scene}
use Rattle.dri_world.proofs.Held.{same_run}
use Rattle.dri_world.proofs.world.World.turn.Goals as goal

pub invariant_of-self : goal.invariant_of-self
invariant_of-self c = same_run _ _ _ _ _ c.self.invariant c.reserve.ensures.run

pub invariant_of-self-in_err-reserve-2 : goal.invariant_of-self-in_err-reserve-2
invariant_of-self-in_err-reserve-2 c = rw c.reserve-2.ensures.items (same_run _ _ _ _ _ c.self.invariant c.reserve.ensures.run)

pub index_mut-client-requires : goal.index_mut-client-requires
index_mut-client-requires c =
    let inside : c.in-Some.place < length c.self.inside.clients.items = within_scene _ _ _ _ _ _ c.self.invariant (placed _ _ _ _ _ c.deref.ensures c.as_slice.ensures c.in-Some.ensures.number) in
    search rules

pub turn_of-requires-clause-seated : goal.turn_of-requires-clause-seated
turn_of-requires-clause-seated c =
    is_seated _ _ _ _ _ _ _ (stands_in _ _ _ _ _ _ _ _ c.self.invariant c.reserve.ensures.run (placed _ _ _ _ _ c.deref.ensures c.as_slice.ensures c.in-Some.ensures.number) c.index_mut-client.ensures.value) c.in_ok-reserve.ensures.ok

pub turn_of-requires-clause-legal : goal.turn_of-requires-clause-legal
turn_of-requires-clause-legal c =
    turn_may _ _ _ _ _ _ _ (stands_in _ _ _ _ _ _ _ _ c.self.invariant c.reserve.ensures.run (placed _ _ _ _ _ c.deref.ensures c.as_slice.ensures c.in-Some.ensures.number) c.index_mut-client.ensures.value)

pub invariant_of-self-in_err-made : goal.invariant_of-self-in_err-made
invariant_of-self-in_err-made c =
    still_held _ _ _ _ _ _ _ (stands_in _ _ _ _ _ _ _ _ c.self.invariant c.reserve.ensures.run (placed _ _ _ _ _ c.deref.ensures c.as_slice.ensures c.in-Some.ensures.number) c.index_mut-client.ensures.value)
    _ _ _ c.reserve-2.ensures.items c.in_err-made.ensures.err

pub invariant_of-self-2 : goal.invariant_of-self-2
invariant_of-self-2 c =
    turn_held _ _ _ _ _ _ _ (stands_in _ _ _ _ _ _ _ _ c.self.invariant c.reserve.ensures.run (placed _ _ _ _ _ c.deref.ensures c.as_slice.ensures c.in-Some.ensures.number) c.index_mut-client.ensures.value)
    c.in_ok-made.made _ _ _ c.in_ok-made.ensures.event (c.note.ensures.events ∙ ap (λ t. t ++ one_event c.in_ok-made.made) c.reserve-2.ensures.items) c.in_ok-made.ensures.made

pub returns-clause-told : goal.returns-clause-told
returns-clause-told c =
    (turn_answers _ _ _ _ c.args.actor c.in_ok-made.made c.note.result c.self.invariant.good c.self.invariant.run c.self.view_is
    (turn_event _ _ _ _ _ _ _ (stands_in _ _ _ _ _ _ _ _ c.self.invariant c.reserve.ensures.run (placed _ _ _ _ _ c.deref.ensures c.as_slice.ensures c.in-Some.ensures.number) c.index_mut-client.ensures.value) c.in_ok-made.made c.in_ok-made.ensures.event)
    c.note.ensures.told (c.note.ensures.events ∙ ap (λ t. t ++ one_event c.in_ok-made.made) c.reserve-2.ensures.items)).told

pub returns-clause-made : goal.returns-clause-made
returns-clause-made c =
    (turn_answers _ _ _ _ c.args.actor c.in_ok-made.made c.note.result c.self.invariant.good c.self.invariant.run c.self.view_is
    (turn_event _ _ _ _ _ _ _ (stands_in _ _ _ _ _ _ _ _ c.self.invariant c.reserve.ensures.run (placed _ _ _ _ _ c.deref.ensures c.as_slice.ensures c.in-Some.ensures.number) c.index_mut-client.ensures.value) c.in_ok-made.made c.in_ok-made.ensures.event)
    c.note.ensures.told (c.note.ensures.events ∙ ap (λ t. t ++ one_event c.in_ok-made.made) c.reserve-2.ensures.items)).made

pub returns-clause-passed : goal.returns-clause-passed
returns-clause-passed c =
    (turn_answers _ _ _ _ c.args.actor c.in_ok-made.made c.note.result c.self.invariant.good c.self.invariant.run c.self.view_is
    (turn_event _ _ _ _ _ _ _ (stands_in _ _ _ _ _ _ _ _ c.self.invariant c.reserve.ensures.run (placed _ _ _ _ _ c.deref.ensures c.as_slice.ensures c.in-Some.ensures.number) c.index_mut-client.ensures.value) c.in_ok-made.made c.in_ok-made.ensures.event)
    c.note.ensures.told (c.note.ensures.events ∙ ap (λ t. t ++ one_event c.in_ok-made.made) c.reserve-2.ensures.items)).passed
