use Rattle.std.proofs.Common.{◌≡◌, ◌<◌, ◌≤◌, ◌++◌, length, subst, w32, arith}
use Rattle.std.specs.Prelude.{ℤ, take, drop}
use Rattle.std.proofs.lemmas.Int.{to_z-of_z}
use Rattle.dri_rect.specs.Walk.{lowered}
use Rattle.dri_rect.proofs.Placed.{lower_start, lower_step, lower_smaller, lower_end}
use Rattle.dri_rect.proofs.bands.lower.Goals as goal

pub loop-i-init : goal.loop-i-init
loop-i-init c = rw (to_z-of_z w32 c.args.bottom c.ranges.bottom) (lower_start c.args.out.now.items c.args.start c.args.bottom (omega (arith, c.requires)))

pub loop-i-smaller : goal.loop-i-smaller
loop-i-smaller c = let l : c.loop-i.i < length c.loop-i.out.items = omega (arith, c.loop-i-test.true, c.len.ensures) in lower_smaller c.loop-i.out.items c.loop-i.i _ l

pub loop-i-preserved : goal.loop-i-preserved
loop-i-preserved c =
    let l : c.loop-i.i < length c.loop-i.out.items = omega (arith, c.loop-i-test.true, c.len.ensures) in
    lower_step _ _ _ _ _ c.index_mut.result.now c.loop-i.invariant l c.index_mut.ensures.value

pub returns : goal.returns
returns c =
    let l : length c.loop-i.out.items ≤ c.loop-i.i = omega (arith, c.loop-i-test.false, c.len.ensures) in
    subst (λ (b : ℤ). c.loop-i.out.items ≡ take c.args.start c.args.out.now.items ++ lowered b (drop c.args.start c.args.out.now.items)) (to_z-of_z w32 c.args.bottom c.ranges.bottom) (lower_end _ _ _ _ _ c.loop-i.invariant l)
