-- Each kind of edge cuts the span on its side.
use Rattle.std.proofs.Common.{◌≡◌, pos, ◌+ℤ◌, ◌-ℤ◌, neg_ℤ, w32, w64, FitsSigned, ap, ◌∙◌, arith}
use Rattle.std.proofs.lemmas.Int.{to_z-of_z, ints}
use Rattle.dri_raster.specs.Spans.{in_span}
use Rattle.dri_raster.proofs.Spans.{falling, level_all, level_none, rising}
use Rattle.dri_raster.proofs.edge.Edge.narrowed.Goals as goal

pub quotient-last-requires-clause-number : goal.quotient-last-requires-clause-number
quotient-last-requires-clause-number c = (omega (arith, ints), omega (arith, ints))

pub quotient-last-requires-then-self-lt0-clause-number : goal.quotient-last-requires-then-self-lt0-clause-number
quotient-last-requires-then-self-lt0-clause-number c = (omega (arith, ints), omega (arith, ints))

pub returns-then-self-gt0-clause-columns : goal.returns-then-self-gt0-clause-columns
returns-then-self-gt0-clause-columns c x =
    let e = c.args.self.now in
    let span = c.args.span in
    let y_fits = c.ranges.y in
    let distance_fits : FitsSigned w64 c.distance.result = omega (arith, ints) in
    let least_fits : FitsSigned w64 e.least = omega (arith, ints) in
    let slack_fits : FitsSigned w64 (c.distance.result -ℤ e.least) = omega (arith, ints) in
    let column_fits : FitsSigned w64 e.column = omega (arith, ints) in
    let x1_fits : FitsSigned w32 span.x1 = omega (arith, ints) in
    let x2_fits : FitsSigned w32 span.x2 = omega (arith, ints) in
    let distance_is = simp to_z-of_z at c.distance.ensures.value in
    let slack_is = ap (λ d. d -ℤ e.least) distance_is in
    let q = c.quotient-last.result in
    let q_fits : FitsSigned w64 q = omega (arith, ints) in
    let next_fits : FitsSigned w64 (q +ℤ pos 1) = omega (arith, ints) in
    let result_fits : FitsSigned w32 c.nearest-x2.result = omega (arith, ints) in
    let greatest_is = simp to_z-of_z at (c.quotient-last.ensures.greatest x) in
    let cut = simp to_z-of_z at c.nearest-x2.ensures.cut in
    simp to_z-of_z (falling e span c.nearest-x2.result x c.args.y (c.distance.result -ℤ e.least) q slack_is greatest_is cut)

pub returns-then-self-lt0-clause-columns : goal.returns-then-self-lt0-clause-columns
returns-then-self-lt0-clause-columns c x =
    let e = c.args.self.now in
    let span = c.args.span in
    let y_fits = c.ranges.y in
    let distance_fits : FitsSigned w64 c.distance.result = omega (arith, ints) in
    let least_fits : FitsSigned w64 e.least = omega (arith, ints) in
    let slack_fits : FitsSigned w64 (c.distance.result -ℤ e.least) = omega (arith, ints) in
    let column_fits : FitsSigned w64 e.column = omega (arith, ints) in
    let x1_fits : FitsSigned w32 span.x1 = omega (arith, ints) in
    let x2_fits : FitsSigned w32 span.x2 = omega (arith, ints) in
    let distance_is = simp to_z-of_z at c.distance.ensures.value in
    let slack_is = ap (λ d. d -ℤ e.least) distance_is in
    let q = c.quotient-last-then-self-lt0.result in
    let q_fits : FitsSigned w64 q = omega (arith, ints) in
    let back_fits : FitsSigned w64 (neg_ℤ q) = omega (arith, ints) in
    let turned_fits : FitsSigned w64 (neg_ℤ e.column) = omega (arith, ints) in
    let column_is : pos 0 -ℤ e.column ≡ neg_ℤ e.column = omega (arith, ints) in
    let back_is : pos 0 -ℤ q ≡ neg_ℤ q = omega (arith, ints) in
    let result_fits : FitsSigned w32 c.nearest-x1.result = omega (arith, ints) in
    let greatest_is = simp (to_z-of_z, column_is) at (c.quotient-last-then-self-lt0.ensures.greatest (neg_ℤ x)) in
    let cut = simp (to_z-of_z, back_is) at c.nearest-x1.ensures.cut in
    simp to_z-of_z (rising e span c.nearest-x1.result x c.args.y (c.distance.result -ℤ e.least) q slack_is greatest_is cut)

pub returns-then-slack-lt0-clause-columns : goal.returns-then-slack-lt0-clause-columns
returns-then-slack-lt0-clause-columns c x =
    let e = c.args.self.now in
    let span = c.args.span in
    let y_fits = c.ranges.y in
    let distance_fits : FitsSigned w64 c.distance.result = omega (arith, ints) in
    let least_fits : FitsSigned w64 e.least = omega (arith, ints) in
    let slack_fits : FitsSigned w64 (c.distance.result -ℤ e.least) = omega (arith, ints) in
    let column_fits : FitsSigned w64 e.column = omega (arith, ints) in
    let x1_fits : FitsSigned w32 span.x1 = omega (arith, ints) in
    let x2_fits : FitsSigned w32 span.x2 = omega (arith, ints) in
    let distance_is = simp to_z-of_z at c.distance.ensures.value in
    let slack_is = ap (λ d. d -ℤ e.least) distance_is in
    ap (λ s. in_span s x) c.none_of.ensures
    ∙ level_none e span x c.args.y (c.distance.result -ℤ e.least) slack_is (omega (arith, ints)) (omega (arith, ints))

pub returns-else-slack-lt0-clause-columns : goal.returns-else-slack-lt0-clause-columns
returns-else-slack-lt0-clause-columns c x =
    let e = c.args.self.now in
    let span = c.args.span in
    let y_fits = c.ranges.y in
    let distance_fits : FitsSigned w64 c.distance.result = omega (arith, ints) in
    let least_fits : FitsSigned w64 e.least = omega (arith, ints) in
    let slack_fits : FitsSigned w64 (c.distance.result -ℤ e.least) = omega (arith, ints) in
    let column_fits : FitsSigned w64 e.column = omega (arith, ints) in
    let x1_fits : FitsSigned w32 span.x1 = omega (arith, ints) in
    let x2_fits : FitsSigned w32 span.x2 = omega (arith, ints) in
    let distance_is = simp to_z-of_z at c.distance.ensures.value in
    let slack_is = ap (λ d. d -ℤ e.least) distance_is in
    level_all e span x c.args.y (c.distance.result -ℤ e.least) slack_is (omega (arith, ints)) (omega (arith, ints))
