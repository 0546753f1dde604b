-- One job more.
use Rattle.std.proofs.Common.{◌≡◌, ◌≤◌, ◌<◌, ◌∙◌, ap, sym, subst, length, List, arith}
use Rattle.std.specs.Arc.{arc_value}
use Rattle.std.proofs.lemmas.Bool.Decides.{nat_tests}
use Rattle.dri_ring.specs.Jobs.{IsGood, effect}
use Rattle.dri_ring.specs.Rings.{Ring, after_jobs, read, settled}
use Rattle.dri_ring.specs.declared.job.Job.{Job}
use Rattle.dri_ring.proofs.Ready.{few_more, ready_more}
use Rattle.dri_ring.proofs.Settling.{put_last}
use Rattle.dri_ring.proofs.engine.Engine.put.Goals as goal

pub invariant_of-self : goal.invariant_of-self
invariant_of-self c =
    let i = c.self.inside in let e = c.self.invariant in
    let good : IsGood (arc_value i.scene) c.args.job = subst (λ (v : Ring). IsGood v.scene c.args.job) (sym c.self.view_is) c.requires.good in
    let less : length i.pending.items < i.room = grind (arith, nat_tests, c.if-len-self.false, c.len.ensures) in
    record {
      scene = e.scene;
      card = e.card;
      room = e.room;
      few = few_more i.pending.items c.args.job c.push_reserved.new.self.items i.room c.push_reserved.ensures.items less;
      kept = subst (λ n. i.room ≤ n) (sym c.push_reserved.ensures.capacity) e.kept;
      ready = ready_more (arc_value i.scene) i.pending.items c.args.job c.push_reserved.new.self.items c.push_reserved.ensures.items e.ready (record { good = good; drawable = c.requires.drawable });
    }

pub returns-clause-settled : goal.returns-clause-settled
returns-clause-settled c =
    let i = c.self.inside in let p = read i.card.front i.card.back i.card.depth in
    subst (λ (v : Ring). after_jobs (arc_value i.scene) c.push_reserved.new.self.items p ≡ effect v.scene (settled v) c.args.job) c.self.view_is
    (ap (λ (js : List Job). after_jobs (arc_value i.scene) js p) c.push_reserved.ensures.items ∙ put_last (arc_value i.scene) i.pending.items c.args.job p)
