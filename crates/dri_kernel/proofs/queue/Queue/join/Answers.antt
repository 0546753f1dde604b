-- There is room, and the actor stands once.
use Rattle.std.proofs.Common.{ℕ, List, sym, subst, arith}
use Rattle.std.specs.List.{Contains}
use Rattle.dri_kernel.specs.Waiting.{IsQueue}
use Rattle.dri_kernel.proofs.Places.{joined, room}
use Rattle.dri_kernel.proofs.queue.Queue.join.Goals as goal

pub push-requires : goal.push-requires
push-requires c =
    (omega arith, room c.self.inside.actors.items c.args.actor c.self.invariant c.requires.actor (λ there. c.requires.absent (subst (λ (queue : List ℕ). Contains queue c.args.actor) c.self.view_is there)))

pub invariant_of-self : goal.invariant_of-self
invariant_of-self c =
    subst IsQueue (sym c.push.ensures.items) (joined c.self.inside.actors.items c.args.actor c.self.invariant c.requires.actor (λ there. c.requires.absent (subst (λ (queue : List ℕ). Contains queue c.args.actor) c.self.view_is there)))
