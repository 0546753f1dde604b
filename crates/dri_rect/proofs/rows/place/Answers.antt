use Rattle.std.proofs.Common.{◌≡◌, subst, w32, arith, rules, to_z, of_z, take, ◌++◌, get_or, pos}
use Rattle.std.proofs.lemmas.Grind.{common_steps}
use Rattle.std.proofs.lemmas.Int.{to_z-of_z}
use mir.Val.{SFits}
use Rattle.dri_base.specs.declared.shape.Rect.{Rect}
use Rattle.dri_rect.specs.Walk.{placed}
use Rattle.dri_rect.proofs.BandWalks.{placed_at}
use Rattle.dri_rect.proofs.rows.place.Goals as goal

abbrev none : Rect
none = record { x1 = pos 0; y1 = pos 0; x2 = pos 0; y2 = pos 0 }

pub loop-rect-preserved : goal.loop-rect-preserved
loop-rect-preserved c =
    let f : SFits w32 (get_or c.args.row.now c.loop-rect.rect-index none).x1 = search rules in
    let g : SFits w32 (get_or c.args.row.now c.loop-rect.rect-index none).x2 = search rules in
    placed_at _ c.args.row.now _ _ c.loop-rect.rect-index _ _ none _ _ c.loop-rect-test.true c.loop-rect.invariant (to_z-of_z w32 _ f) (to_z-of_z w32 _ g) c.in_ok-push.ensures.items

pub returns : goal.returns
returns c =
    let e : take c.loop-rect.rect-index c.args.row.now ≡ c.args.row.now = grind (arith, common_steps) in
    subst (λ t. c.loop-rect.into.items ≡ c.args.into.now.items ++ placed t c.args.bottom c.args.row.now) (to_z-of_z w32 c.args.top c.ranges.top)
    (subst (λ t. c.loop-rect.into.items ≡ c.args.into.now.items ++ placed (to_z w32 (of_z w32 c.args.top)) t c.args.row.now) (to_z-of_z w32 c.args.bottom c.ranges.bottom)
    (subst (λ t. c.loop-rect.into.items ≡ c.args.into.now.items ++ placed (to_z w32 (of_z w32 c.args.top)) (to_z w32 (of_z w32 c.args.bottom)) t) e c.loop-rect.invariant))
