use Rattle.dri_card16.proofs.Differing.{differ_after}
use Rattle.dri_card16.proofs.Planes.{kept_after}
use Rattle.dri_card16.proofs.runs.beside.Goals as goal

pub returns-clause-rest : goal.returns-clause-rest
returns-clause-rest c = differ_after

pub returns-clause-kept : goal.returns-clause-kept
returns-clause-kept c = kept_after
