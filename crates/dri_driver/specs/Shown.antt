-- The phase that a client shows.
use Rattle.std.specs.Prelude.{Bool, true, false}
use Rattle.dri_driver.specs.declared.phase.Phase.{Phase}
use Rattle.dri_driver.specs.declared.phase.Phase.TheVariants.{Out, Old, In, Over, Ask, Asking, Dying, Ended, Dead}
use Rattle.dri_core.specs.Phases as Kept

-- who is dying shows that, whatever it was doing; else its phase
abbrev pub shown_phase : Bool → Kept.Phase → Phase
shown_phase true phase = Dying
shown_phase false Kept.Out = Out
shown_phase false Kept.Old = Old
shown_phase false Kept.In = In
shown_phase false Kept.Over = Over
shown_phase false Kept.Ask = Ask
shown_phase false Kept.Asking = Asking
shown_phase false Kept.Ended = Ended
shown_phase false Kept.Dead = Dead
