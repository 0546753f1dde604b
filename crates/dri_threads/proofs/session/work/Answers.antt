use Rattle.dri_threads.proofs.Made.{made_in, more_in, seated_in}
use Rattle.dri_threads.proofs.session.work.Goals as goal

pub returns-in-Stale-clause-works : goal.returns-in-Stale-clause-works
returns-in-Stale-clause-works c =
    let seated = seated_in _ _ _ _ c.enter.ensures.works in
    more_in _ _ _ _ _ _ c.enter.ensures.works (made_in _ _ _ _ _ seated c.stale.ensures.made seated.numbered)

pub returns-in-Go-clause-works : goal.returns-in-Go-clause-works
returns-in-Go-clause-works c = more_in _ _ _ _ _ _ c.enter.ensures.works c.act_on.ensures.works
