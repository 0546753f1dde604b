-- How many places of a rectangle a triangle covers.
use Rattle.std.proofs.Common.{◌≡◌, ℕ, ◌+◌, ◌-◌, ◌≤◌, ◌<◌, pos, ◌+ℤ◌, ◌-ℤ◌, length, ap, sym, ◌∙◌, arith}
use Rattle.std.specs.List.{filter}
use Rattle.std.proofs.lemmas.Int.{ints}
use Rattle.dri_base.specs.declared.shape.ClipRect.{ClipRect}
use Rattle.dri_base.specs.declared.shape.Point.{Point}
use Rattle.dri_base.specs.declared.shape.Triangle.{Triangle}
use Rattle.dri_base.specs.Coverage.{covers}
use Rattle.dri_raster.specs.declared.span.Span.{Span}
use Rattle.dri_raster.specs.Spans.{IsSpan}
use Rattle.dri_raster.specs.Walks.{extent, rows}
use Rattle.dri_raster.proofs.Counts.{fewer_covered, row_counts, span_counts}
use Rattle.dri_raster.proofs.Rows.{extent_is}
use Rattle.dri_walk.specs.Clips.{covered_in_row, covered_places, in_window}

-- a run has as many places as its row has that are covered
pub run_counts : (t : Triangle) (r : ClipRect) (o : Point) (y : ℕ) (s : Span) (left right : ℕ) → IsSpan t (in_window r o) (pos y -ℤ o.y) s → pos left ≡ s.x1 +ℤ o.x → pos right ≡ s.x2 +ℤ o.x → right - left ≡ covered_in_row t r o y
run_counts t r o y s left right is lefts rights =
    let long = extent_is (s.x2 -ℤ s.x1) in
    let some = is.some in
    let size : right - left ≡ extent s.x1 s.x2 = omega (arith, ints, lefts, rights, long, some) in
    size ∙ sym (span_counts t (in_window r o) (pos y -ℤ o.y) s is)

-- the places from a row on are those of the row, and those below it
pub places_from : (t : Triangle) (r : ClipRect) (o : Point) (y : ℕ) → y < r.y2 → covered_places t (record r { y1 = y }) o ≡ covered_in_row t r o y + covered_places t (record r { y1 = y + 1 }) o
places_from t r o y below =
    let w = extent (pos r.x1 -ℤ o.x) (pos r.x2 -ℤ o.x) in
    let next : (pos y -ℤ o.y) +ℤ pos 1 ≡ pos (y + 1) -ℤ o.y = omega (arith, ints) in
    row_counts (λ p. covers t p.x p.y) (pos r.x1 -ℤ o.x) w (pos y -ℤ o.y) (pos r.y2 -ℤ o.y) (omega (arith, ints, below))
    ∙ ap (λ n. covered_in_row t r o y + length (filter (λ p. covers t p.x p.y) (rows (pos r.x1 -ℤ o.x) w n (extent n (pos r.y2 -ℤ o.y))))) next

-- a rectangle within another has no more
pub fewer_places : (t : Triangle) (r s : ClipRect) (o : Point) → r.x1 ≤ s.x1 → s.x2 ≤ r.x2 → r.y1 ≤ s.y1 → s.y2 ≤ r.y2 → covered_places t s o ≤ covered_places t r o
fewer_places t r s o left right top bottom =
    fewer_covered t (in_window r o) (in_window s o) (omega (arith, ints, left)) (omega (arith, ints, right)) (omega (arith, ints, top)) (omega (arith, ints, bottom))
