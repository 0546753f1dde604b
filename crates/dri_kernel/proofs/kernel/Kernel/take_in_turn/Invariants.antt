-- The waiter so far.
use Rattle.dri_kernel.specs.Waiters.{IsSameWaiter}
use Rattle.dri_kernel.proofs.kernel.Kernel.take_in_turn.Given as goal

abbrev pub invariant-loop : goal.invariant-loop
invariant-loop g l =
    (goal.iterator-loop g).can_next l.iterator' × (goal.iterator-loop g).is_finite l.iterator' × IsSameWaiter l.fn.waiter l.waiter
