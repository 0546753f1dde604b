use Rattle.std.proofs.Common.{arith, inl, inr}
use Rattle.std.specs.Prelude.{◌<ℤ◌, ◌≤ℤ◌}
use Rattle.std.proofs.lemmas.Int.{ints, to_z-of_z}
use Rattle.dri_rect.proofs.Bounds.{kept_alone, kept_pixels}
use Rattle.dri_rect.proofs.Regions.{no_pixels}
use Rattle.dri_rect.proofs.region.Region.alone.Goals as goal

pub returns-then-rect : goal.returns-then-rect
returns-then-rect c =
    let l : c.args.rect.x2 ≤ℤ c.args.rect.x1 = grind (arith, ints, to_z-of_z) in
    rw c.nothing.ensures (no_pixels c.args.rect (inl l))

pub returns-then-rect-2 : goal.returns-then-rect-2
returns-then-rect-2 c =
    let l : c.args.rect.y2 ≤ℤ c.args.rect.y1 = grind (arith, ints, to_z-of_z) in
    rw c.nothing-then-rect-2.ensures (no_pixels c.args.rect (inr l))

pub invariant_of-result : goal.invariant_of-result
invariant_of-result c =
    let a : c.args.rect.x1 <ℤ c.args.rect.x2 = grind (arith, ints, to_z-of_z) in
    let b : c.args.rect.y1 <ℤ c.args.rect.y2 = grind (arith, ints, to_z-of_z) in
    kept_alone _ _ c.new.ensures.items c.requires a b

pub returns : goal.returns
returns c = kept_pixels _ _ c.new.ensures.items
