use Rattle.dri_core.proofs.RunLaws.{light_current, acting_current, owner_clean, intact}
use Rattle.dri_core.proofs.hold_runs.central.Goals as goal

pub returns-clause-light : goal.returns-clause-light
returns-clause-light c = light_current

pub returns-clause-acting : goal.returns-clause-acting
returns-clause-acting c = acting_current

pub returns-clause-clean : goal.returns-clause-clean
returns-clause-clean c = owner_clean

pub returns-clause-intact : goal.returns-clause-intact
returns-clause-intact c = intact
