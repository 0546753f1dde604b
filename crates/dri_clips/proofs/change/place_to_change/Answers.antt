use Rattle.std.proofs.Common.{◌≡◌, ◌∙◌, refl}
use Rattle.std.proofs.lemmas.Result.{err_from_is_err_and}
use Rattle.dri_model.specs.Stacks.{Refusal, refusal, refused_at}
use Rattle.dri_clips.proofs.Placing.{placed_below}
use Rattle.dri_clips.proofs.Restacking.{refused_absent, refused_here}
use Rattle.dri_clips.proofs.change.place_to_change.Goals as goal

pub returns-in_default-clause-err : goal.returns-in_default-clause-err
returns-in_default-clause-err c = record {
  why = Refusal.NoWindow;
  is = refused_absent c.args.change.now c.args.stack.now (rw (← c.window-number.ensures) c.in_default.ensures.absent);
  told = refl;
}

pub window-requires : goal.window-requires
window-requires c = placed_below _ _ _ c.in-Some.ensures.there

pub returns-in_err-allow_change-clause-err : goal.returns-in_err-allow_change-clause-err
returns-in_err-allow_change-clause-err c =
    let p = err_from_is_err_and c.from_residual.result c.from_residual.ensures.1 in
    let here : refusal c.args.change.now c.args.stack.now ≡ refused_at c.args.change.now c.window.result =
    refused_here c.args.change.now c.in-Some.at c.args.stack.now c.window.result (rw (← c.window-number.ensures) c.in-Some.ensures.there) c.window.ensures in
    rw (p.1, p.2, here) c.in_err-allow_change.ensures.err

pub returns-clause-ok : goal.returns-clause-ok
returns-clause-ok c = refused_here c.args.change.now c.in-Some.at c.args.stack.now c.window.result (rw (← c.window-number.ensures) c.in-Some.ensures.there) c.window.ensures ∙ c.in_ok-allow_change.ensures.ok
