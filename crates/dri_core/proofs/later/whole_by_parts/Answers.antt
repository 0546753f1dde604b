use Rattle.dri_core.proofs.Stays as Stays
use Rattle.dri_core.proofs.later.whole_by_parts.Goals as goal

pub returns : goal.returns
returns c = Stays.whole_by_parts
