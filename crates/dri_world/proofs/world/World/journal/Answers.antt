use Rattle.std.proofs.Common.{◌≡◌, subst}
use Rattle.std.specs.Arc.{arc_value}
use Rattle.dri_core.specs.CoreRuns.{world_of}
use Rattle.dri_core.specs.Cores.{journal_of}
use Rattle.dri_core.specs.Runs.{after}
use Rattle.dri_core.proofs.Cores.{journal_after}
use Rattle.dri_world.specs.Courses.{Course}
use Rattle.dri_world.proofs.world.World.journal.Goals as goal

pub returns-clause-world : goal.returns-clause-world
returns-clause-world c =
    subst (λ (w : Course). after w.scene (journal_of w.events) ≡ world_of w.scene w.events) c.self.view_is (journal_after (arc_value c.self.inside.scene) c.self.inside.events.items)
