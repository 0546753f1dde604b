use Rattle.std.proofs.Common.{sym, subst}
use Rattle.dri_hwlock.specs.Tokens.{pass_token, hold_token, value_in}
use Rattle.dri_shared.specs.States.{SharedState}
use Rattle.dri_threads.specs.Sessions.{IsSeated}
use Rattle.dri_threads.proofs.Found.{seat_found, adds_found, base_found}
use Rattle.dri_threads.proofs.Standing.{hold_found, released_looks, stands_left}
use Rattle.dri_threads.proofs.actor.hold_to_learn.Goals as goal

pub asking_session-requires-clause-seated : goal.asking_session-requires-clause-seated
asking_session-requires-clause-seated g c = let h = c.lock_as_server-hold.ensures.hold in
    subst (λ (v : SharedState). IsSeated v c.args.client.now c.args.number) (sym c.value.ensures.value) (seat_found _ _ _ _ c.requires.stands h.base h.begins h.own)

pub unlock_server-requires-clause-base : goal.unlock_server-requires-clause-base
unlock_server-requires-clause-base g c = let h = c.lock_as_server-hold.ensures.hold in let f = hold_found _ _ _ _ c.requires.stands.context h.kept h.seen h.base in
    base_found _ _ _ _ _ f c.value.ensures.value c.asking_session.ensures.grows

pub unlock_server-requires-clause-adds : goal.unlock_server-requires-clause-adds
unlock_server-requires-clause-adds g c = let h = c.lock_as_server-hold.ensures.hold in let f = hold_found _ _ _ _ c.requires.stands.context h.kept h.seen h.base in
    adds_found _ _ _ _ _ f c.value.ensures.value c.asking_session.ensures.grows

pub release-requires-clause-base : goal.release-requires-clause-base
release-requires-clause-base g c = let h = c.lock_as_server-hold.ensures.hold in let f = hold_found _ _ _ _ c.requires.stands.context h.kept h.seen h.base in
    base_found _ _ _ _ _ f c.value.ensures.value c.asking_session.ensures.grows

pub release-requires-clause-adds : goal.release-requires-clause-adds
release-requires-clause-adds g c = let h = c.lock_as_server-hold.ensures.hold in let f = hold_found _ _ _ _ c.requires.stands.context h.kept h.seen h.base in
    adds_found _ _ _ _ _ f c.value.ensures.value c.asking_session.ensures.grows

pub returns-in-Ok-clause-stands : goal.returns-in-Ok-clause-stands
returns-in-Ok-clause-stands g c = let h = c.lock_as_server-hold.ensures.hold in let f = hold_found _ _ _ _ c.requires.stands.context h.kept h.seen h.base in
    stands_left (hold_token c.lock_as_server-hold.result) (pass_token c.unlock_server.result) (value_in c.lock_as_server-hold.result) c.value.result.now c.asking_session.new.shared c.args.client.now c.asking_session.new.client c.args.number
    f c.value.ensures.value (released_looks _ _ c.unlock_server.ensures.look) c.in-Ok.ensures.works c.requires.stands.living c.in-Ok.ensures.rests
