-- By the law of the planes' steps.
use Rattle.dri_history.proofs.Staying.{untouched_stays}
use Rattle.dri_history.proofs.law.untouched.Goals as goal

pub returns : goal.returns
returns c = untouched_stays
