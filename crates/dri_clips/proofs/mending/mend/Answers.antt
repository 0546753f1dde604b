use Rattle.std.proofs.Common.{◌≡◌, ◌≤◌, arith, ap, ◌∙◌, length, filter}
use Rattle.std.specs.Prelude.{ℤ, ◌&&◌, ◌||◌}
use Rattle.dri_base.specs.declared.shape.Rect.{Rect}
use Rattle.dri_rect.specs.Pixels.{has_pixel, inside}
use Rattle.dri_clips.specs.Areas.{has_named, in_area, names, reached_after}
use Rattle.dri_clips.specs.Mends.{is_met}
use Rattle.dri_clips.proofs.Areas.{count_weaker, met_after}
use Rattle.dri_clips.proofs.Lists.{walk_done}
use Rattle.dri_clips.proofs.mending.mend.Goals as goal

pub returns-in_err-windows-clause-steps : goal.returns-in_err-windows-clause-steps
returns-in_err-windows-clause-steps g c =
    let area_is : (x y : ℤ) → inside c.in_ok-area.area x y ≡ in_area c.args.old.now.width c.args.old.now.height (names c.args.cause.now) c.args.old.now.stack c.args.new.now x y =
    λ x y. c.in_ok-area.ensures.region x y ∙ ap (λ (r : Rect). has_pixel r x y && (has_named (names c.args.cause.now) c.args.old.now.stack x y || has_named (names c.args.cause.now) c.args.new.now x y)) c.screen.ensures in
    let few : length (filter (is_met (names c.args.cause.now) c.in_ok-area.area) c.args.new.now) ≤ reached_after (names c.args.cause.now) c.args.old.now.stack c.args.new.now =
    count_weaker _ _ (met_after c.args.old.now.width c.args.old.now.height (names c.args.cause.now) c.args.old.now.stack c.args.new.now c.in_ok-area.area area_is) c.args.new.now in
    omega (arith, few, c.area_of.ensures.steps, c.copy.ensures.steps, c.mend_windows.ensures.steps)

pub returns-in_err-root-clause-steps : goal.returns-in_err-root-clause-steps
returns-in_err-root-clause-steps g c =
    let area_is : (x y : ℤ) → inside c.in_ok-area.area x y ≡ in_area c.args.old.now.width c.args.old.now.height (names c.args.cause.now) c.args.old.now.stack c.args.new.now x y =
    λ x y. c.in_ok-area.ensures.region x y ∙ ap (λ (r : Rect). has_pixel r x y && (has_named (names c.args.cause.now) c.args.old.now.stack x y || has_named (names c.args.cause.now) c.args.new.now x y)) c.screen.ensures in
    let few : length (filter (is_met (names c.args.cause.now) c.in_ok-area.area) c.args.new.now) ≤ reached_after (names c.args.cause.now) c.args.old.now.stack c.args.new.now =
    count_weaker _ _ (met_after c.args.old.now.width c.args.old.now.height (names c.args.cause.now) c.args.old.now.stack c.args.new.now c.in_ok-area.area area_is) c.args.new.now in
    omega (arith, few, c.area_of.ensures.steps, c.copy.ensures.steps, c.mend_windows.ensures.steps, c.mend_list.ensures.steps)

pub returns-clause-mended : goal.returns-clause-mended
returns-clause-mended g c =
    let area_is : (x y : ℤ) → inside c.in_ok-area.area x y ≡ in_area c.args.old.now.width c.args.old.now.height (names c.args.cause.now) c.args.old.now.stack c.args.new.now x y =
    λ x y. c.in_ok-area.ensures.region x y ∙ ap (λ (r : Rect). has_pixel r x y && (has_named (names c.args.cause.now) c.args.old.now.stack x y || has_named (names c.args.cause.now) c.args.new.now x y)) c.screen.ensures in
    walk_done c.args.old.now (names c.args.cause.now) c.args.new.now c.in_ok-area.area c.mend_windows.new.left (length c.args.new.now) _ (omega arith) c.requires.layout c.in_ok-windows.ensures.apart c.requires.others c.requires.absent area_is c.in_ok-windows.ensures.walk c.in_ok-root.ensures.patch

pub returns-clause-steps : goal.returns-clause-steps
returns-clause-steps g c =
    let area_is : (x y : ℤ) → inside c.in_ok-area.area x y ≡ in_area c.args.old.now.width c.args.old.now.height (names c.args.cause.now) c.args.old.now.stack c.args.new.now x y =
    λ x y. c.in_ok-area.ensures.region x y ∙ ap (λ (r : Rect). has_pixel r x y && (has_named (names c.args.cause.now) c.args.old.now.stack x y || has_named (names c.args.cause.now) c.args.new.now x y)) c.screen.ensures in
    let few : length (filter (is_met (names c.args.cause.now) c.in_ok-area.area) c.args.new.now) ≤ reached_after (names c.args.cause.now) c.args.old.now.stack c.args.new.now =
    count_weaker _ _ (met_after c.args.old.now.width c.args.old.now.height (names c.args.cause.now) c.args.old.now.stack c.args.new.now c.in_ok-area.area area_is) c.args.new.now in
    omega (arith, few, c.area_of.ensures.steps, c.copy.ensures.steps, c.mend_windows.ensures.steps, c.mend_list.ensures.steps)
