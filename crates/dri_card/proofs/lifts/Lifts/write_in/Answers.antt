-- Each list is laid in its plane.
use Rattle.std.proofs.Common.{w32}
use Rattle.std.proofs.lemmas.Int.{to_z-of_z}
use Rattle.dri_card.proofs.lifts.Lifts.write_in.Goals as goal

pub returns-clause-front_laid : goal.returns-clause-front_laid
returns-clause-front_laid g c = λ f is.
    let same_dx = to_z-of_z w32 c.args.dx c.ranges.dx in
    let same_dy = to_z-of_z w32 c.args.dy c.ranges.dy in
    rw (same_dx, same_dy) at (c.write_in.ensures.pixels f is)

pub returns-clause-back_laid : goal.returns-clause-back_laid
returns-clause-back_laid g c = λ f is.
    let same_dx = to_z-of_z w32 c.args.dx c.ranges.dx in
    let same_dy = to_z-of_z w32 c.args.dy c.ranges.dy in
    rw (same_dx, same_dy) at (c.write_in-2.ensures.pixels f is)

pub returns-clause-depth_laid : goal.returns-clause-depth_laid
returns-clause-depth_laid g c = λ f is.
    let same_dx = to_z-of_z w32 c.args.dx c.ranges.dx in
    let same_dy = to_z-of_z w32 c.args.dy c.ranges.dy in
    rw (same_dx, same_dy) at (c.write_in-3.ensures.pixels f is)
