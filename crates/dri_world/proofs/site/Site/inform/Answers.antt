use Rattle.std.proofs.lemmas.Result.{err_from_is_err_and}
use Rattle.dri_world.proofs.Fitting.{brings_none, told_brings}
use Rattle.dri_world.proofs.site.Site.inform.Goals as goal

pub returns-clause-made : goal.returns-clause-made
returns-clause-made c = told_brings _ _ _ _ _ _ c.in_ok-told.told c.requires.seated c.number-number.ensures c.in_ok-told.ensures.made c.in_ok-told.ensures.told c.told.ensures.state (c.told.ensures.fits _ _) c.end_hold.ensures.word c.end_hold.ensures.queue

pub returns-in_err-told-clause-err : goal.returns-in_err-told-clause-err
returns-in_err-told-clause-err c =
    let exit = err_from_is_err_and c.from_residual.result c.from_residual.ensures.1 in
    rw exit.1 (brings_none c.args.self.now _ c.args.client.now c.requires.seated.fits c.in_err-told.ensures.err)
