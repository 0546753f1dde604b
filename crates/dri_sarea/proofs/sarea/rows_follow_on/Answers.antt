use Rattle.dri_sarea.proofs.Parts.{follow_on}
use Rattle.dri_sarea.proofs.sarea.rows_follow_on.Goals as goal

pub returns : goal.returns
returns c = follow_on
