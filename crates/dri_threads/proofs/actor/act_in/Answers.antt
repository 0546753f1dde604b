use Rattle.dri_hwlock.specs.Tokens.{pass_token, hold_token, value_in}
use Rattle.dri_threads.proofs.Found.{adds_found, base_found}
use Rattle.dri_threads.proofs.Standing.{released_looks, stands_left}
use Rattle.dri_threads.proofs.actor.act_in.Goals as goal

pub unlock-requires-clause-base : goal.unlock-requires-clause-base
unlock-requires-clause-base g c = base_found _ _ _ _ _ c.requires.found c.value.ensures.value c.acting_session.ensures.grows

pub unlock-requires-clause-adds : goal.unlock-requires-clause-adds
unlock-requires-clause-adds g c = adds_found _ _ _ _ _ c.requires.found c.value.ensures.value c.acting_session.ensures.grows

pub release-requires-clause-base : goal.release-requires-clause-base
release-requires-clause-base g c = base_found _ _ _ _ _ c.requires.found c.value.ensures.value c.acting_session.ensures.grows

pub release-requires-clause-adds : goal.release-requires-clause-adds
release-requires-clause-adds g c = adds_found _ _ _ _ _ c.requires.found c.value.ensures.value c.acting_session.ensures.grows

pub release-requires-in-Err-clause-base : goal.release-requires-in-Err-clause-base
release-requires-in-Err-clause-base g c = base_found _ _ _ _ _ c.requires.found c.value.ensures.value c.acting_session.ensures.grows

pub release-requires-in-Err-clause-adds : goal.release-requires-in-Err-clause-adds
release-requires-in-Err-clause-adds g c = adds_found _ _ _ _ _ c.requires.found c.value.ensures.value c.acting_session.ensures.grows

pub returns-in-Ok-Leave-clause-stands : goal.returns-in-Ok-Leave-clause-stands
returns-in-Ok-Leave-clause-stands g c = stands_left (hold_token c.args.hold) (pass_token c.unlock.result) (value_in c.args.hold) c.value.result.now c.acting_session.new.shared c.args.client.now c.acting_session.new.client c.args.number
    c.requires.found c.value.ensures.value c.unlock.ensures.kept c.in-Ok-Leave.ensures.works c.requires.living c.in-Ok-Leave.ensures.rests

pub returns-in-Ok-Die-clause-stands : goal.returns-in-Ok-Die-clause-stands
returns-in-Ok-Die-clause-stands g c = stands_left (hold_token c.args.hold) (pass_token c.release.result) (value_in c.args.hold) c.value.result.now c.acting_session.new.shared c.args.client.now c.acting_session.new.client c.args.number
    c.requires.found c.value.ensures.value (released_looks _ _ c.release.ensures.look) c.in-Ok-Die.ensures.works c.requires.living c.in-Ok-Die.ensures.rests
