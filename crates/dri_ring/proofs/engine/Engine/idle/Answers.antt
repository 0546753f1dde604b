-- One job more, and all.
use Rattle.std.proofs.Common.{◌≡◌, [], ◌∙◌, length, arith, ap}
use Rattle.dri_ring.specs.Rings.{Ring, planes_of}
use Rattle.dri_ring.proofs.Ready.{all_ran, none_left, one_less, only_ran}
use Rattle.dri_ring.proofs.engine.Engine.idle.Goals as goal

pub loop-ran-preserved : goal.loop-ran-preserved
loop-ran-preserved c = record {
  settled = c.step.ensures.settled ∙ c.loop-ran.invariant.settled;
  left = one_less c.loop-ran.self.pending c.step.new.self.pending c.loop-ran._ran (length c.args.self.now.pending) c.step.ensures.left c.loop-ran.invariant.left (omega (arith, ap (λ (v : Ring). length v.pending) c.self.view_is));
  others = only_ran c.args.self.now c.loop-ran.self c.step.new.self c.loop-ran.invariant.others c.step.ensures.others;
}

pub returns-clause-empty : goal.returns-clause-empty
returns-clause-empty c = none_left c.loop-ran.self.pending (omega (arith, c.loop-ran.invariant.left, ap (λ (v : Ring). length v.pending) c.self.view_is))

pub returns-clause-planes : goal.returns-clause-planes
returns-clause-planes c =
    let none : c.loop-ran.self.pending ≡ [] = none_left c.loop-ran.self.pending (omega (arith, c.loop-ran.invariant.left, ap (λ (v : Ring). length v.pending) c.self.view_is)) in
    all_ran c.loop-ran.self.scene c.loop-ran.self.pending (planes_of c.loop-ran.self) none ∙ c.loop-ran.invariant.settled
