use Rattle.std.proofs.Common.{ap, ◌∙◌}
use Rattle.dri_base.specs.declared.scene.Scene.{Scene}
use Rattle.dri_base.specs.declared.journal.Entry.{Entry}
use Rattle.dri_hwlock.specs.Tokens.{Token, pass_token, value_in}
use Rattle.dri_shared.specs.States.{SharedState, world_of}
use Rattle.dri_threads.proofs.Found.{adds_found, base_found}
use Rattle.dri_threads.proofs.Standing.{hold_found, left_found, made_found, made_again}
use Rattle.dri_threads.proofs.actor.hold_to_change.Goals as goal

pub change_session-requires : goal.change_session-requires
change_session-requires g c = let h = c.lock_as_server-hold.ensures.hold in
    let m = made_found c.args.stage.now.scene.now (pass_token c.args.pass) (value_in c.lock_as_server-hold.result) c.requires.base c.requires.context h.base h.begins h.own in
    record { left = left_found c.args.stage.now.scene.now (pass_token c.args.pass) c.value.result.now (value_in c.lock_as_server-hold.result) c.value.ensures.value m c.requires.left }

pub release-requires-clause-base : goal.release-requires-clause-base
release-requires-clause-base g c = let h = c.lock_as_server-hold.ensures.hold in let f = hold_found _ _ _ _ c.requires.context h.kept h.seen h.base in
    base_found _ _ _ _ _ f c.value.ensures.value c.change_session.ensures.grows

pub release-requires-clause-adds : goal.release-requires-clause-adds
release-requires-clause-adds g c = let h = c.lock_as_server-hold.ensures.hold in let f = hold_found _ _ _ _ c.requires.context h.kept h.seen h.base in
    adds_found _ _ _ _ _ f c.value.ensures.value c.change_session.ensures.grows

pub unlock_server-requires-clause-base : goal.unlock_server-requires-clause-base
unlock_server-requires-clause-base g c = let h = c.lock_as_server-hold.ensures.hold in let f = hold_found _ _ _ _ c.requires.context h.kept h.seen h.base in
    base_found _ _ _ _ _ f c.value.ensures.value c.change_session.ensures.grows

pub unlock_server-requires-clause-adds : goal.unlock_server-requires-clause-adds
unlock_server-requires-clause-adds g c = let h = c.lock_as_server-hold.ensures.hold in let f = hold_found _ _ _ _ c.requires.context h.kept h.seen h.base in
    adds_found _ _ _ _ _ f c.value.ensures.value c.change_session.ensures.grows

pub returns-in-Ok-clause-made : goal.returns-in-Ok-clause-made
returns-in-Ok-clause-made g c = let h = c.lock_as_server-hold.ensures.hold in
    let m = made_found c.args.stage.now.scene.now (pass_token c.args.pass) (value_in c.lock_as_server-hold.result) c.requires.base c.requires.context h.base h.begins h.own in
    let same = c.value.ensures.value in
    made_again c.args.stage.now.scene.now (pass_token c.args.pass) (pass_token c.unlock_server.result) c.value.result.now c.change_session.new.shared
    (ap (λ (v : SharedState). v.scene) same ∙ m.0) (ap (λ (v : SharedState). (world_of v).made) same ∙ m.1) c.change_session.ensures.grows c.in-Ok.ensures.made
    (ap (λ (x : Token Scene Entry). x.seen) c.unlock_server.ensures.look)
