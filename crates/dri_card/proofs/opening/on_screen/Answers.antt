-- The four sides are cut to the screen.
use Rattle.std.proofs.Common.{◌+ℤ◌, pos, rules, arith}
use Rattle.std.proofs.lemmas.Int.{ints}
use Rattle.dri_walk.proofs.CutRects.{Cuts, rises, window_cut}
use Rattle.dri_card.proofs.opening.on_screen.Goals as goal

pub returns-clause-inside : goal.returns-clause-inside
returns-clause-inside c =
    let w = c.args.window.now in
    let left : Cuts 0 c.args.width c.nearest.result w.x = search rules in
    let upper : Cuts 0 c.args.height c.nearest-2.result w.y = search rules in
    let right : Cuts 0 c.args.width c.nearest-3.result (w.x +ℤ pos w.width) = search rules in
    let lower : Cuts 0 c.args.height c.nearest-4.result (w.y +ℤ pos w.height) = search rules in
    record {
      columns = rises 0 c.args.width _ _ w.x (w.x +ℤ pos w.width) c.nearest.ensures.to c.nearest-3.ensures.from left right (omega (arith, ints));
      right = c.nearest-3.ensures.to;
      rows = rises 0 c.args.height _ _ w.y (w.y +ℤ pos w.height) c.nearest-2.ensures.to c.nearest-4.ensures.from upper lower (omega (arith, ints));
      bottom = c.nearest-4.ensures.to;
    }

pub returns-clause-pixels : goal.returns-clause-pixels
returns-clause-pixels c =
    let w = c.args.window.now in
    let left : Cuts 0 c.args.width c.nearest.result w.x = search rules in
    let upper : Cuts 0 c.args.height c.nearest-2.result w.y = search rules in
    let right : Cuts 0 c.args.width c.nearest-3.result (w.x +ℤ pos w.width) = search rules in
    let lower : Cuts 0 c.args.height c.nearest-4.result (w.y +ℤ pos w.height) = search rules in
    λ a b la lb. window_cut w _ c.args.width c.args.height a b left upper right lower la lb
