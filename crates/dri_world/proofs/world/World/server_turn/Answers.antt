use Rattle.std.proofs.Common.{◌++◌, ◌∙◌, ap}
use Rattle.dri_core.specs.Turns.{one_event}
use Rattle.dri_world.proofs.Answering.{turn_answers}
use Rattle.dri_world.proofs.Held.{may_turn, same_run, served_on, server_same, unserved_on}
use Rattle.dri_world.proofs.world.World.server_turn.Goals as goal

pub invariant_of-self : goal.invariant_of-self
invariant_of-self c = same_run _ _ _ _ _ c.self.invariant c.reserve.ensures.run

pub invariant_of-self-in_err-reserve-2 : goal.invariant_of-self-in_err-reserve-2
invariant_of-self-in_err-reserve-2 c = rw c.reserve-2.ensures.items (same_run _ _ _ _ _ c.self.invariant c.reserve.ensures.run)

pub turn_of_server-requires-clause-legal : goal.turn_of_server-requires-clause-legal
turn_of_server-requires-clause-legal c =
    let held = same_run _ _ _ _ _ c.self.invariant c.reserve.ensures.run in
    may_turn _ _ _ _ held 0 _ (server_same _ _ _ _ held)

pub invariant_of-self-in_err-made : goal.invariant_of-self-in_err-made
invariant_of-self-in_err-made c =
    rw c.reserve-2.ensures.items (unserved_on _ _ _ _ (same_run _ _ _ _ _ c.self.invariant c.reserve.ensures.run) _ c.in_err-made.ensures.err)

pub invariant_of-self-2 : goal.invariant_of-self-2
invariant_of-self-2 c =
    let held = same_run _ _ _ _ _ c.self.invariant c.reserve.ensures.run in
    rw (c.note.ensures.events, c.reserve-2.ensures.items)
    (served_on _ _ _ _ held _ c.in_ok-made.made (c.in_ok-made.ensures.event ∙ server_same _ _ _ _ held) c.in_ok-made.ensures.made)

pub returns-clause-told : goal.returns-clause-told
returns-clause-told c =
    let held = same_run _ _ _ _ _ c.self.invariant c.reserve.ensures.run in
    (turn_answers _ _ _ _ 0 c.in_ok-made.made c.note.result c.self.invariant.good c.self.invariant.run c.self.view_is
    (c.in_ok-made.ensures.event ∙ server_same _ _ _ _ held)
    c.note.ensures.told (c.note.ensures.events ∙ ap (λ t. t ++ one_event c.in_ok-made.made) c.reserve-2.ensures.items)).told

pub returns-clause-made : goal.returns-clause-made
returns-clause-made c =
    let held = same_run _ _ _ _ _ c.self.invariant c.reserve.ensures.run in
    (turn_answers _ _ _ _ 0 c.in_ok-made.made c.note.result c.self.invariant.good c.self.invariant.run c.self.view_is
    (c.in_ok-made.ensures.event ∙ server_same _ _ _ _ held)
    c.note.ensures.told (c.note.ensures.events ∙ ap (λ t. t ++ one_event c.in_ok-made.made) c.reserve-2.ensures.items)).made

pub returns-clause-passed : goal.returns-clause-passed
returns-clause-passed c =
    let held = same_run _ _ _ _ _ c.self.invariant c.reserve.ensures.run in
    (turn_answers _ _ _ _ 0 c.in_ok-made.made c.note.result c.self.invariant.good c.self.invariant.run c.self.view_is
    (c.in_ok-made.ensures.event ∙ server_same _ _ _ _ held)
    c.note.ensures.told (c.note.ensures.events ∙ ap (λ t. t ++ one_event c.in_ok-made.made) c.reserve-2.ensures.items)).passed

pub returns-clause-less : goal.returns-clause-less
returns-clause-less c =
    let held = same_run _ _ _ _ _ c.self.invariant c.reserve.ensures.run in
    (turn_answers _ _ _ _ 0 c.in_ok-made.made c.note.result c.self.invariant.good c.self.invariant.run c.self.view_is
    (c.in_ok-made.ensures.event ∙ server_same _ _ _ _ held)
    c.note.ensures.told (c.note.ensures.events ∙ ap (λ t. t ++ one_event c.in_ok-made.made) c.reserve-2.ensures.items)).less

pub returns-clause-sound : goal.returns-clause-sound
returns-clause-sound c =
    let held = same_run _ _ _ _ _ c.self.invariant c.reserve.ensures.run in
    let kept = served_on _ _ _ _ held _ c.in_ok-made.made (c.in_ok-made.ensures.event ∙ server_same _ _ _ _ held) c.in_ok-made.ensures.made in
    record { good = c.self.invariant.good; run = rw (c.note.ensures.events, c.reserve-2.ensures.items) kept.run }
