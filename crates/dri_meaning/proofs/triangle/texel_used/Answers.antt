-- The pixel is covered.
use Rattle.std.proofs.Common.{w32}
use Rattle.std.proofs.lemmas.Int.{to_z-of_z}
use Rattle.dri_meaning.proofs.triangle.texel_used.Goals as goal

pub value_at-t-requires : goal.value_at-t-requires
value_at-t-requires c =
    let ex = to_z-of_z w32 c.args.x c.ranges.x in
    let ey = to_z-of_z w32 c.args.y c.ranges.y in
    rw (ex, ey) c.requires.covered
