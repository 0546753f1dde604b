-- The phases as a part keeps them.
use Rattle.dri_client.specs.declared.activity.Activity.{Activity}
use Rattle.dri_client.specs.declared.activity.Activity.TheVariants as Activity_is
use Rattle.dri_core.specs.Phases.{Phase, Out, Old, In, Over, Ask, Asking, Ended, Dead}

-- the phase that it stands for
abbrev pub phase_in : Activity → Phase
phase_in Activity_is.Out = Out
phase_in Activity_is.Old = Old
phase_in Activity_is.In = In
phase_in Activity_is.Over = Over
phase_in Activity_is.Ask = Ask
phase_in Activity_is.Asking = Asking
phase_in Activity_is.Ended = Ended
phase_in Activity_is.Dead = Dead
