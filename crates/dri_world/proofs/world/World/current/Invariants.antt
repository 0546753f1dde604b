use Rattle.dri_core.specs.CoreRuns.{world_of}
use Rattle.dri_core.specs.Cores.{journal_of}
use Rattle.dri_world.specs.Currents.{standing}
use Rattle.dri_world.proofs.Seating.{Passes}
use Rattle.dri_world.proofs.world.World.current.Given as goal

abbrev pub invariant-loop-passed : goal.invariant-loop-passed
invariant-loop-passed l = Passes l.fn.grouping (world_of l.fn.self.scene l.fn.self.events) (standing l.fn.self.scene l.fn.grouping (journal_of l.fn.self.events)) l.fn.seat l.seat l.passed
