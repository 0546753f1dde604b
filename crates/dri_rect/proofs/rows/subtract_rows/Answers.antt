use Rattle.std.proofs.Common.{◌≤ℤ◌, w32, arith, rules}
use Rattle.std.proofs.lemmas.Int.{ints, to_z-of_z}
use mir.Val.{SFits}
use Rattle.dri_rect.proofs.Subtracting.{subtract_start, whole_step, inside_step, past_step, subtract_end}
use Rattle.dri_rect.proofs.rows.subtract_rows.Goals as goal

pub loop-one-init : goal.loop-one-init
loop-one-init c = rw (to_z-of_z w32 c.args.top c.ranges.top, to_z-of_z w32 c.args.bottom c.ranges.bottom) (subtract_start c.args.first.now c.args.second.now c.args.into.now.items c.args.top c.args.bottom c.requires.first c.requires.second)

pub loop-one-preserved-in_default-first_before : goal.loop-one-preserved-in_default-first_before
loop-one-preserved-in_default-first_before c =
    let one1 : SFits w32 c.in-Some.one.now.x1 = search rules in
    let one2 : SFits w32 c.in-Some.one.now.x2 = search rules in
    let from : SFits w32 c.greater-from.result = search rules in
    whole_step _ _ _ _ _ _ _ _ _ c.loop-one.invariant _ _ c.in-Some.ensures.cases.0 _ c.in_default-first_before.ensures (to_z-of_z w32 _ one2) _ _ _ _ (to_z-of_z w32 _ one1) c.greater-from.ensures (to_z-of_z w32 _ from) (to_z-of_z w32 _ one2) _ c.in_ok-put.ensures

pub loop-one-preserved-then-other-one : goal.loop-one-preserved-then-other-one
loop-one-preserved-then-other-one c =
    let one1 : SFits w32 c.in-Some.one.now.x1 = search rules in
    let one2 : SFits w32 c.in-Some.one.now.x2 = search rules in
    let other1 : SFits w32 c.in-Some-first_before.other.now.x1 = search rules in
    let other2 : SFits w32 c.in-Some-first_before.other.now.x2 = search rules in
    let from : SFits w32 c.greater-from.result = search rules in
    inside_step _ _ _ _ _ _ _ _ _ c.loop-one.invariant _ _ _ _ c.in-Some.ensures.cases.0 c.in-Some-first_before.ensures.0 _ c.in-Some-first_before.ensures.1 (to_z-of_z w32 _ one2) _ _ _ _ (to_z-of_z w32 _ one1) c.greater-from.ensures (to_z-of_z w32 _ from) (to_z-of_z w32 _ other1) _ c.in_ok-put-2.ensures _ (to_z-of_z w32 _ other2)

pub loop-one-preserved : goal.loop-one-preserved
loop-one-preserved c =
    let one1 : SFits w32 c.in-Some.one.now.x1 = search rules in
    let one2 : SFits w32 c.in-Some.one.now.x2 = search rules in
    let other1 : SFits w32 c.in-Some-first_before.other.now.x1 = search rules in
    let other2 : SFits w32 c.in-Some-first_before.other.now.x2 = search rules in
    let from : SFits w32 c.greater-from.result = search rules in
    let l : c.in-Some.one.now.x2 ≤ℤ c.in-Some-first_before.other.now.x2 = grind (arith, ints, to_z-of_z) in
    past_step _ _ _ _ _ _ _ _ _ c.loop-one.invariant _ _ _ _ c.in-Some.ensures.cases.0 c.in-Some-first_before.ensures.0 _ c.in-Some-first_before.ensures.1 (to_z-of_z w32 _ one2) l _ _ _ _ (to_z-of_z w32 _ one1) c.greater-from.ensures (to_z-of_z w32 _ from) (to_z-of_z w32 _ other1) _ c.in_ok-put-2.ensures _ (to_z-of_z w32 _ other2)

pub returns : goal.returns
returns c = subtract_end _ _ _ _ _ _ _ _ _ c.loop-one.invariant c.in_default.ensures.cases _ _ (to_z-of_z w32 c.args.top c.ranges.top) (to_z-of_z w32 c.args.bottom c.ranges.bottom)
