use Rattle.std.proofs.Common.{◌≤ℤ◌, w32, arith, rules}
use Rattle.std.proofs.lemmas.Int.{ints, to_z-of_z}
use mir.Val.{SFits}
use Rattle.dri_rect.proofs.Uniting.{pick_other, pick_one}
use Rattle.dri_rect.proofs.rows.pick.Goals as goal

pub returns-then-other-one : goal.returns-then-other-one
returns-then-other-one c =
    let f : SFits w32 c.in-Some-split_first.other.now.x1 = search rules in
    let g : SFits w32 c.in-Some.one.now.x1 = search rules in
    let l : c.in-Some-split_first.other.now.x1 ≤ℤ c.in-Some.one.now.x1 = grind (arith, ints, to_z-of_z) in
    pick_other _ _ _ _ _ _ _ _ c.in-Some.ensures.cases.0 c.in-Some-split_first.ensures.cases.0 l c.requires.left c.requires.right c.columns_of-then-other-one.ensures.x1 c.columns_of-then-other-one.ensures.x2

pub returns : goal.returns
returns c =
    let f : SFits w32 c.in-Some-split_first.other.now.x1 = search rules in
    let g : SFits w32 c.in-Some.one.now.x1 = search rules in
    let l : c.in-Some.one.now.x1 ≤ℤ c.in-Some-split_first.other.now.x1 = grind (arith, ints, to_z-of_z) in
    pick_one _ _ _ _ _ _ _ _ c.in-Some.ensures.cases.0 c.in-Some-split_first.ensures.cases.0 l c.requires.left c.requires.right c.columns_of-2.ensures.x1 c.columns_of-2.ensures.x2
