-- The span that the three edges leave is what is covered.
use Rattle.std.proofs.Common.{◌≡◌, true, false, ◌&&◌, int_le, int_lt, ap, ◌∙◌, w32, FitsSigned, arith, rules}
use Rattle.std.proofs.lemmas.Int.{to_z-of_z, ints}
use Rattle.dri_base.specs.Coverage.{covers}
use Rattle.dri_raster.specs.Spans.{in_span}
use Rattle.dri_raster.proofs.Covered.{covered_by}
use Rattle.dri_raster.proofs.Spans.{beyond_rows, empty_span, within_rows}
use Rattle.dri_raster.proofs.setup.Setup.span.Goals as goal

pub returns-then-not-has_row : goal.returns-then-not-has_row
returns-then-not-has_row c x =
    let r = c.args.rect.now in
    let outside : (int_le r.y1 c.args.y && int_lt c.args.y r.y2) ≡ false = search rules in
    beyond_rows r x c.args.y (covers c.args.self.now x c.args.y) outside

pub returns-then-span : goal.returns-then-span
returns-then-span c x =
    let s = c.self.inside in
    let r = c.args.rect.now in
    let y = c.args.y in
    let y_fits = c.ranges.y in
    let x1_fits : FitsSigned w32 r.x1 = omega (arith, ints) in
    let x2_fits : FitsSigned w32 r.x2 = omega (arith, ints) in
    let narrowed_is = simp to_z-of_z at (c.narrowed-span.ensures.columns x) in
    let held : (int_le r.y1 y && int_lt y r.y2) ≡ true = search rules in
    let covered_is = covered_by s x y c.self.invariant ∙ ap (λ t. covers t x y) c.self.view_is in
    within_rows r c.narrowed-span.result x y (covers c.args.self.now x y) held (narrowed_is ∙ ap (λ b. in_span (record { x1 = r.x1; x2 = r.x2 }) x && b) covered_is)
    ∙ empty_span c.narrowed-span.result x (omega (arith, ints))

pub returns : goal.returns
returns c =
    let s = c.self.inside in
    let r = c.args.rect.now in
    let y = c.args.y in
    let y_fits = c.ranges.y in
    let x1_fits : FitsSigned w32 r.x1 = omega (arith, ints) in
    let x2_fits : FitsSigned w32 r.x2 = omega (arith, ints) in
    let held : (int_le r.y1 y && int_lt y r.y2) ≡ true = search rules in
    record {
      some = omega (arith, ints);
      columns = λ x.
          let narrowed_is = simp to_z-of_z at (c.narrowed-span.ensures.columns x) in
          let covered_is = covered_by s x y c.self.invariant ∙ ap (λ t. covers t x y) c.self.view_is in
          within_rows r c.narrowed-span.result x y (covers c.args.self.now x y) held (narrowed_is ∙ ap (λ b. in_span (record { x1 = r.x1; x2 = r.x2 }) x && b) covered_is);
    }
