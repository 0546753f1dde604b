use Rattle.std.proofs.Common.{◌≤ℤ◌, w32, arith, rules, inl, inr}
use Rattle.std.proofs.lemmas.Int.{ints, to_z-of_z}
use mir.Val.{SFits}
use Rattle.dri_rect.proofs.Subtracting.{intersect_start, first_step, second_step, intersect_end}
use Rattle.dri_rect.proofs.rows.intersect_rows.Goals as goal

pub loop-one-init : goal.loop-one-init
loop-one-init c = rw (to_z-of_z w32 c.args.top c.ranges.top, to_z-of_z w32 c.args.bottom c.ranges.bottom) (intersect_start c.args.first.now c.args.second.now c.args.into.now.items c.args.top c.args.bottom c.requires.first c.requires.second)

pub returns-in_default-split_first : goal.returns-in_default-split_first
returns-in_default-split_first c = intersect_end _ _ _ _ _ _ _ _ c.loop-one.invariant (inr c.in_default-split_first.ensures.cases) _ _ (to_z-of_z w32 c.args.top c.ranges.top) (to_z-of_z w32 c.args.bottom c.ranges.bottom)

pub loop-one-preserved-then-one-other : goal.loop-one-preserved-then-one-other
loop-one-preserved-then-one-other c =
    let one1 : SFits w32 c.in-Some.one.now.x1 = search rules in
    let one2 : SFits w32 c.in-Some.one.now.x2 = search rules in
    let other1 : SFits w32 c.in-Some-split_first.other.now.x1 = search rules in
    let other2 : SFits w32 c.in-Some-split_first.other.now.x2 = search rules in
    let from : SFits w32 c.greater-from.result = search rules in
    let to : SFits w32 c.lesser.result = search rules in
    let l : c.in-Some.one.now.x2 ≤ℤ c.in-Some-split_first.other.now.x2 = grind (arith, ints, to_z-of_z) in
    first_step _ _ _ _ _ _ _ _ c.loop-one.invariant _ _ _ _ c.in-Some.ensures.cases.0 c.in-Some-split_first.ensures.cases.0 l _ _ _ _ _ _ _ _ (to_z-of_z w32 _ one1) (to_z-of_z w32 _ other1) c.greater-from.ensures (to_z-of_z w32 _ from) (to_z-of_z w32 _ one2) (to_z-of_z w32 _ other2) c.lesser.ensures.value (to_z-of_z w32 _ to) _ c.in_ok-put.ensures

pub loop-one-preserved : goal.loop-one-preserved
loop-one-preserved c =
    let one1 : SFits w32 c.in-Some.one.now.x1 = search rules in
    let one2 : SFits w32 c.in-Some.one.now.x2 = search rules in
    let other1 : SFits w32 c.in-Some-split_first.other.now.x1 = search rules in
    let other2 : SFits w32 c.in-Some-split_first.other.now.x2 = search rules in
    let from : SFits w32 c.greater-from.result = search rules in
    let to : SFits w32 c.lesser.result = search rules in
    let l : c.in-Some-split_first.other.now.x2 ≤ℤ c.in-Some.one.now.x2 = grind (arith, ints, to_z-of_z) in
    second_step _ _ _ _ _ _ _ _ c.loop-one.invariant _ _ _ _ c.in-Some.ensures.cases.0 c.in-Some-split_first.ensures.cases.0 l _ _ _ _ _ _ _ _ (to_z-of_z w32 _ one1) (to_z-of_z w32 _ other1) c.greater-from.ensures (to_z-of_z w32 _ from) (to_z-of_z w32 _ one2) (to_z-of_z w32 _ other2) c.lesser.ensures.value (to_z-of_z w32 _ to) _ c.in_ok-put.ensures

pub returns : goal.returns
returns c = intersect_end _ _ _ _ _ _ _ _ c.loop-one.invariant (inl c.in_default.ensures.cases) _ _ (to_z-of_z w32 c.args.top c.ranges.top) (to_z-of_z w32 c.args.bottom c.ranges.bottom)
