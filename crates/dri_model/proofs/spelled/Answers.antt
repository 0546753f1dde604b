use Rattle.dri_model.proofs.Buffers.{buffer_once}
use Rattle.dri_model.proofs.Spelling.{spelled_once}
use Rattle.dri_model.proofs.spelled.Goals as goal

pub returns-clause-registers : goal.returns-clause-registers
returns-clause-registers c = spelled_once

pub returns-clause-triangles : goal.returns-clause-triangles
returns-clause-triangles c = buffer_once
