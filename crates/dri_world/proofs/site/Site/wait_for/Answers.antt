use Rattle.std.proofs.Common.{◌∙◌, ap}
use Rattle.dri_core.specs.Turns.{waiting}
use Rattle.dri_world.specs.Sites.{core_at}
use Rattle.dri_world.proofs.Fitting.{wait_brings}
use Rattle.dri_world.proofs.site.Site.wait_for.Goals as goal

pub returns-clause-event : goal.returns-clause-event
returns-clause-event c = c.wait.ensures.event c.args.self.now.shared c.args.client.now.dying ∙ ap (waiting (core_at c.args.self.now c.args.client.now.dying)) c.number.ensures

pub returns-clause-made : goal.returns-clause-made
returns-clause-made c =
    let v = c.args.self.now.shared in
    let d = c.args.client.now.dying in
    wait_brings c.args.self.now c.wait.new.self c.args.client.now c.number.result c.wait.result c.requires.seated (c.wait.ensures.event v d) (c.wait.ensures.word v d) (c.wait.ensures.queue v d) c.wait.ensures.entry
