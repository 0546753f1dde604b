-- Those before stay, and the one that is refused doesn't.
use Rattle.std.proofs.Common.{refl, sym, arith, w32}
use Rattle.std.proofs.lemmas.Bool.{true≢false}
use Rattle.std.proofs.lemmas.Int.{to_z-of_z}
use Rattle.std.proofs.lemmas.List.{take_all}
use Rattle.std.proofs.lemmas.List.Elements.{All-more}
use Rattle.std.proofs.lemmas.Result.{err_from_is_err_and}
use Rattle.dri_card.specs.Contents.{empty_clip}
use Rattle.dri_plane.specs.Moves.{StaysInside}
use Rattle.dri_card.proofs.Carrying.{first_off}
use Rattle.dri_card.proofs.screen.expect_all_stay.Goals as goal

pub returns-in_err-expect_stays-clause-stay : goal.returns-in_err-expect_stays-clause-stay
returns-in_err-expect_stays-clause-stay c =
    let same_dx = to_z-of_z w32 c.args.dx c.ranges.dx in
    let same_dy = to_z-of_z w32 c.args.dy c.ranges.dy in
    let p = err_from_is_err_and c.from_residual.result c.from_residual.ensures.1 in
    let stays = rw (same_dx, same_dy) at c.in_err-expect_stays.ensures.stays in
    rw p.1 (λ is. absurd (true≢false (sym is)), λ all. stays.1 (all c.loop-rect.rect-index empty_clip c.loop-rect-test.true))

pub returns-in_err-expect_stays-clause-off : goal.returns-in_err-expect_stays-clause-off
returns-in_err-expect_stays-clause-off c =
    let same_dx = to_z-of_z w32 c.args.dx c.ranges.dx in
    let same_dy = to_z-of_z w32 c.args.dy c.ranges.dy in
    let p = err_from_is_err_and c.from_residual.result c.from_residual.ensures.1 in
    let stays = rw (same_dx, same_dy) at c.in_err-expect_stays.ensures.stays in
    let before = rw (same_dx, same_dy) at c.loop-rect.invariant in
    rw (p.1, p.2) (first_off c.args.dx c.args.dy c.args.width c.args.height c.args.rects.now c.loop-rect.rect-index c.in_err-expect_stays.field-0.0 c.loop-rect-test.true before (λ there. true≢false (sym (stays.1 there))) c.in_err-expect_stays.ensures.off)

pub loop-rect-preserved : goal.loop-rect-preserved
loop-rect-preserved c =
    All-more (StaysInside _ _ c.args.width c.args.height) c.args.rects.now c.loop-rect.rect-index empty_clip c.loop-rect-test.true c.loop-rect.invariant (c.in_ok-expect_stays.ensures.stays.0 refl)

pub returns-clause-stay : goal.returns-clause-stay
returns-clause-stay c =
    let same_dx = to_z-of_z w32 c.args.dx c.ranges.dx in
    let same_dy = to_z-of_z w32 c.args.dy c.ranges.dy in
    (λ _. rw (same_dx, same_dy, take_all c.loop-rect.rect-index c.args.rects.now (omega arith)) at c.loop-rect.invariant, λ _. refl)
