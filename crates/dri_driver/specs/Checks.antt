-- What the client finds once the kernel let it in.
use Rattle.dri_core.specs.Phases.{In, Old, Phase}
use Rattle.dri_driver.specs.declared.answers.Checked.{Checked}
use Rattle.dri_driver.specs.declared.answers.Checked.TheVariants.{Go, Stale}

-- it may act, or its stamp is old
abbrev pub phase_checked : Checked → Phase
phase_checked Go = In
phase_checked Stale = Old
