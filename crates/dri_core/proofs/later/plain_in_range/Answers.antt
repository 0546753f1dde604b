use Rattle.dri_core.proofs.Stays as Stays
use Rattle.dri_core.proofs.later.plain_in_range.Goals as goal

pub returns : goal.returns
returns c = Stays.plain_in_range
