use Rattle.std.proofs.Common.{refl}
use Rattle.dri_clips.specs.Areas.{names}
use Rattle.dri_clips.proofs.Areas.{cost_all, cost_more, named_more}
use Rattle.dri_clips.proofs.area.add_named.Goals as goal

pub returns-in_err-area-clause-steps : goal.returns-in_err-area-clause-steps
returns-in_err-area-clause-steps g c = cost_all _ c.args.stack.now _ 2 c.args.steps.now c.add_window.new.steps (cost_more _ c.args.stack.now c.loop-at.at _ 2 c.args.steps.now c.loop-at.steps c.add_window.new.steps c.window.result refl c.window.ensures c.loop-at.invariant.steps c.add_window.ensures.steps)

pub loop-at-preserved : goal.loop-at-preserved
loop-at-preserved g c = record {
  region = named_more (names c.args.cause.now) c.args.screen.now c.args.stack.now c.loop-at.at _ c.window.result c.args.area c.loop-at.area c.in_ok-area.area refl c.window.ensures c.loop-at.invariant.region c.in_ok-area.ensures.region;
  steps = cost_more _ c.args.stack.now c.loop-at.at _ 2 c.args.steps.now c.loop-at.steps c.add_window.new.steps c.window.result refl c.window.ensures c.loop-at.invariant.steps c.add_window.ensures.steps;
}
