use Rattle.std.proofs.Common.{subst, sym, ◌∙◌}
use Rattle.std.specs.Prelude.{◌-ℤ◌}
use Rattle.dri_clips.specs.Paints.{IsNear}
use Rattle.dri_clips.proofs.Carrying.{corner_placed, places_apart, places_fit, places_near}
use Rattle.dri_clips.proofs.moving.way.Goals as goal

pub overflow_sub-result : goal.overflow_sub-result
overflow_sub-result c =
    let from = corner_placed c.args.old.now c.args.window c.origin-from.result.x c.origin-from.result.y c.requires.old c.origin-from.ensures in
    let to = corner_placed c.args.new.now c.args.window c.origin-to.result.x c.origin-to.result.y c.requires.new c.origin-to.ensures in
    places_fit c.origin-to.result.x c.origin-from.result.x to.0 from.0

pub overflow_sub-result-2 : goal.overflow_sub-result-2
overflow_sub-result-2 c =
    let from = corner_placed c.args.old.now c.args.window c.origin-from.result.x c.origin-from.result.y c.requires.old c.origin-from.ensures in
    let to = corner_placed c.args.new.now c.args.window c.origin-to.result.x c.origin-to.result.y c.requires.new c.origin-to.ensures in
    places_fit c.origin-to.result.y c.origin-from.result.y to.1 from.1

pub returns-clause-way : goal.returns-clause-way
returns-clause-way c =
    let from = corner_placed c.args.old.now c.args.window c.origin-from.result.x c.origin-from.result.y c.requires.old c.origin-from.ensures in
    let to = corner_placed c.args.new.now c.args.window c.origin-to.result.x c.origin-to.result.y c.requires.new c.origin-to.ensures in
    (λ i. (places_apart c.origin-to.result.x c.origin-from.result.x to.0 from.0 i, places_apart c.origin-to.result.y c.origin-from.result.y to.1 from.1 i))
    ∙ (λ i. ((c.origin-to.ensures i).0 -ℤ (c.origin-from.ensures i).0, (c.origin-to.ensures i).1 -ℤ (c.origin-from.ensures i).1))

pub returns-clause-across : goal.returns-clause-across
returns-clause-across c =
    let from = corner_placed c.args.old.now c.args.window c.origin-from.result.x c.origin-from.result.y c.requires.old c.origin-from.ensures in
    let to = corner_placed c.args.new.now c.args.window c.origin-to.result.x c.origin-to.result.y c.requires.new c.origin-to.ensures in
    subst IsNear (sym (places_apart c.origin-to.result.x c.origin-from.result.x to.0 from.0)) (places_near c.origin-to.result.x c.origin-from.result.x to.0 from.0)

pub returns-clause-down : goal.returns-clause-down
returns-clause-down c =
    let from = corner_placed c.args.old.now c.args.window c.origin-from.result.x c.origin-from.result.y c.requires.old c.origin-from.ensures in
    let to = corner_placed c.args.new.now c.args.window c.origin-to.result.x c.origin-to.result.y c.requires.new c.origin-to.ensures in
    subst IsNear (sym (places_apart c.origin-to.result.y c.origin-from.result.y to.1 from.1)) (places_near c.origin-to.result.y c.origin-from.result.y to.1 from.1)
