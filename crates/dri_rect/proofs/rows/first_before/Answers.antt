use Rattle.std.proofs.Common.{◌≤ℤ◌, w32, arith, rules}
use Rattle.std.proofs.lemmas.Int.{ints, to_z-of_z}
use mir.Val.{SFits}
use Rattle.dri_rect.proofs.Subtracting.{from_first}
use Rattle.dri_rect.proofs.rows.first_before.Goals as goal

pub returns-else-first-end : goal.returns-else-first-end
returns-else-first-end c =
    let f : SFits w32 c.in_ok-first.first.now.x1 = search rules in
    let l : c.args.end ≤ℤ c.in_ok-first.first.now.x1 = grind (arith, ints, to_z-of_z) in
    from_first c.args.rects.now c.in_ok-first.first.now _ c.args.end c.in_ok-first.ensures.cases.0 c.requires l
