use Rattle.dri_core.proofs.Stays.{all_made_stays, done_stays, made_stays}
use Rattle.dri_core.proofs.later.lasting.Goals as goal

pub returns-clause-made : goal.returns-clause-made
returns-clause-made c = made_stays

pub returns-clause-done : goal.returns-clause-done
returns-clause-done c = done_stays

pub returns-clause-all_made : goal.returns-clause-all_made
returns-clause-all_made c = all_made_stays
