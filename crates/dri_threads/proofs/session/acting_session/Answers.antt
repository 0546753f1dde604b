use Rattle.std.proofs.Common.{rules}
use Rattle.dri_threads.proofs.Made.{works_at}
use Rattle.dri_threads.proofs.Working.{grows_none, grows_more, works_none, works_more}
use Rattle.dri_threads.proofs.session.acting_session.Goals as goal

pub returns-in_err-begin-clause-grows : goal.returns-in_err-begin-clause-grows
returns-in_err-begin-clause-grows g c = grows_none _ _ _ c.begin.ensures.run

pub returns-in_err-go-clause-grows : goal.returns-in_err-go-clause-grows
returns-in_err-go-clause-grows g c = grows_more _ _ _ _ (grows_none _ _ _ c.begin.ensures.run) (grows_more _ _ _ _ (works_at c.args.number _ _ _ _ _ _ c.work-exit.ensures.works c.client_side-side.ensures.client c.client_side-side.ensures.value (search rules)).grows c.go.ensures.grows)

pub returns-clause-grows : goal.returns-clause-grows
returns-clause-grows g c = grows_more _ _ _ _ (grows_none _ _ _ c.begin.ensures.run) (grows_more _ _ _ _ (works_at c.args.number _ _ _ _ _ _ c.work-exit.ensures.works c.client_side-side.ensures.client c.client_side-side.ensures.value (search rules)).grows c.go.ensures.grows)

pub returns-clause-works : goal.returns-clause-works
returns-clause-works g c = works_more _ _ _ _ _ _ _ (works_none _ _ _ _ c.begin.ensures.run c.requires.seated) (works_more _ _ _ _ _ _ _ (works_at c.args.number _ _ _ _ _ _ c.work-exit.ensures.works c.client_side-side.ensures.client c.client_side-side.ensures.value (search rules)) c.in_ok-go.ensures.works)
