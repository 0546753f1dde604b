use Rattle.std.proofs.Common.{refl}
use Rattle.dri_base.specs.declared.journal.Entry.TheVariants.{Info}
use Rattle.dri_core.specs.Phases.{Out}
use Rattle.dri_threads.proofs.Made.{left_kept, made_added, one_grows, one_left, one_works, phase_rests}
use Rattle.dri_threads.proofs.Working.{grows_none}
use Rattle.dri_threads.proofs.session.asking_session.Goals as goal

pub returns-in_err-begin-clause-grows : goal.returns-in_err-begin-clause-grows
returns-in_err-begin-clause-grows g c = grows_none _ _ _ c.begin.ensures.run

pub returns-clause-grows : goal.returns-clause-grows
returns-clause-grows g c = one_grows c.args.number _ _ _ c.begin.ensures.run c.inform.result (Info c.args.number) refl (made_added _ _ _ _ _ _ c.inform.ensures.made) (left_kept _ _ _ _ _ c.inform.ensures.err)

pub returns-clause-works : goal.returns-clause-works
returns-clause-works g c = one_works c.args.number _ _ _ c.begin.ensures.run c.inform.result _ _ (Info c.args.number) refl c.requires.seated c.inform.ensures.made

pub returns-clause-rests : goal.returns-clause-rests
returns-clause-rests g c = phase_rests c.inform.result _ Out refl c.inform.ensures.phase

pub returns-clause-left : goal.returns-clause-left
returns-clause-left g c = one_left c.args.number _ _ _ c.begin.ensures.run c.inform.result 1 (Info c.args.number) refl (made_added _ _ _ _ _ _ c.inform.ensures.made)
