use Rattle.std.proofs.Common.{◌<◌, ◌∙◌, ap, length, false, sym, arith}
use Rattle.std.specs.Prelude.{◌&&◌, not}
use Rattle.dri_core.specs.Cores.{is_next}
use Rattle.dri_core.specs.Turns.{waiting}
use Rattle.dri_shared.specs.States.{world_of}
use Rattle.dri_world.specs.Sites.{core_at}
use Rattle.dri_world.specs.declared.site.Site.{Site}
use Rattle.dri_world.proofs.Whose.{server_waits}
use Rattle.dri_world.proofs.site.Site.turn_of_server.Goals as goal

pub returns-clause-event : goal.returns-clause-event
returns-clause-event c =
    let t = c.args.self.now in
    let same = c.changes_left-left.ensures.same in
    let more : (world_of t.shared).made < length t.shared.scene.changes = omega (arith, c.changes_left-left.ensures.left, c.if-left-eq0.false) in
    let shut = sym (c.if-lets_in.ensures ∙ ap (λ (x : Site). not x.lock.word.held && is_next 0 x.lock.queue) same) in
    let waits = c.wait.ensures.event t.shared false ∙ ap (λ (x : Site). waiting (core_at (record { shared = t.shared; lock = x.lock }) false) 0) same in
    server_waits t.shared.scene (core_at t false) c.wait.result more shut waits
