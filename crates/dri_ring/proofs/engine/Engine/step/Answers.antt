-- The first job ran.
use Rattle.std.proofs.Common.{◌≡◌, ◌<◌, ◌∷◌, subst, length, rules}
use Rattle.std.specs.Arc.{arc_value}
use Rattle.dri_ring.specs.Cards.{IsReady}
use Rattle.dri_ring.specs.Rings.{Ring, after_jobs, first_run, planes_of, read, settled}
use Rattle.dri_ring.proofs.Ready.{first_is, first_planes, first_settled, ready_first}
use Rattle.dri_ring.proofs.engine.Engine.step.Goals as goal

pub returns-clause-planes : goal.returns-clause-planes
returns-clause-planes c =
    let i = c.self.inside in let e = c.self.invariant in let s = arc_value i.scene in let job = c.remove-job.result in
    let some : 0 < length i.pending.items = search rules in
    let is : i.pending.items ≡ job ∷ c.remove-job.new.self.items = first_is i.pending.items job c.remove-job.new.self.items some c.remove-job.ensures.value c.remove-job.ensures.items in
    let ready : IsReady s job = ready_first s i.pending.items job c.remove-job.new.self.items is e.ready in
    subst (λ (v : Ring). read c.run.new.card.front c.run.new.card.back c.run.new.card.depth ≡ first_run v.scene v.pending (planes_of v)) c.self.view_is
    (first_planes s i.pending.items job c.remove-job.new.self.items i.card c.run.new.card is ready.good e.card (rw c.deref.ensures at c.run.ensures.card) (rw c.deref.ensures at c.run.ensures.planes))

pub returns-clause-settled : goal.returns-clause-settled
returns-clause-settled c =
    let i = c.self.inside in let e = c.self.invariant in let s = arc_value i.scene in let job = c.remove-job.result in
    let some : 0 < length i.pending.items = search rules in
    let is : i.pending.items ≡ job ∷ c.remove-job.new.self.items = first_is i.pending.items job c.remove-job.new.self.items some c.remove-job.ensures.value c.remove-job.ensures.items in
    let ready : IsReady s job = ready_first s i.pending.items job c.remove-job.new.self.items is e.ready in
    let ran = first_planes s i.pending.items job c.remove-job.new.self.items i.card c.run.new.card is ready.good e.card (rw c.deref.ensures at c.run.ensures.card) (rw c.deref.ensures at c.run.ensures.planes) in
    subst (λ (v : Ring). after_jobs s c.remove-job.new.self.items (read c.run.new.card.front c.run.new.card.back c.run.new.card.depth) ≡ settled v) c.self.view_is
    (first_settled s i.pending.items job c.remove-job.new.self.items (read i.card.front i.card.back i.card.depth) (read c.run.new.card.front c.run.new.card.back c.run.new.card.depth) is ran)
