use Rattle.dri_model.specs.Words.{Spelled}
use Rattle.dri_model.specs.CommandWords.{Buffer}
use Rattle.dri_model.proofs.Faults.{has_one_fault}
use Rattle.dri_model.proofs.one_fault.Goals as goal

pub returns-clause-registers : goal.returns-clause-registers
returns-clause-registers c = has_one_fault Spelled

pub returns-clause-commands : goal.returns-clause-commands
returns-clause-commands c = has_one_fault Buffer
