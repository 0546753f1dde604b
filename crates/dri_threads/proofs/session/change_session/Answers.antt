use Rattle.std.proofs.Common.{refl}
use Rattle.dri_threads.proofs.Made.{change_made, one_grows, one_left}
use Rattle.dri_threads.proofs.Working.{grows_none}
use Rattle.dri_threads.proofs.session.change_session.Goals as goal

pub returns-in_err-begin-clause-grows : goal.returns-in_err-begin-clause-grows
returns-in_err-begin-clause-grows g c = grows_none _ _ _ c.begin.ensures.run

pub returns-clause-grows : goal.returns-clause-grows
returns-clause-grows g c = one_grows 0 _ _ _ c.begin.ensures.run c.change.result _ refl c.change.ensures.made c.change.ensures.err

pub returns-clause-made : goal.returns-clause-made
returns-clause-made g c = change_made c.change.result _ _ _ c.begin.ensures.run c.change.ensures.made

pub returns-clause-left : goal.returns-clause-left
returns-clause-left g c = one_left 0 _ _ _ c.begin.ensures.run c.change.result 1 _ refl c.change.ensures.made
