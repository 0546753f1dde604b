-- The run that the triangle covers is painted.
use Rattle.std.proofs.Common.{◌≡◌, ◌<◌, pos, ◌+ℤ◌, ◌-ℤ◌, subst, ◌∙◌, arith}
use Rattle.std.proofs.lemmas.Int.{ints}
use Rattle.dri_walk.specs.Clips.{in_window}
use Rattle.dri_walk.specs.Drawings.{pair_by, painted}
use Rattle.dri_walk.specs.Surfaces.{PairsBecome, drawn_at, in_row, run_painted}
use Rattle.dri_walk.proofs.Counts.{run_counts}
use Rattle.dri_walk.proofs.Painting.{becomes_alike}
use Rattle.dri_walk.proofs.Ready.{less_plain}
use Rattle.dri_walk.proofs.Runs.{is_run, near_window, no_places, none_here, row_stays, run_covered, run_is_row, run_places, span_here}
use Rattle.dri_walk.proofs.drawing.Drawing.draw_row.Goals as goal

pub span-requires-clause-rect : goal.span-requires-clause-rect
span-requires-clause-rect g c = rw c.windowed.ensures (near_window c.args.rect.now c.args.origin c.requires.small c.requires.x c.requires.y)

pub returns-in_default-clause-pairs : goal.returns-in_default-clause-pairs
returns-in_default-clause-pairs g c =
    let s = g.S.Surface in
    let d = c.args.self.now in
    let r = c.args.rect.now in
    let o = c.args.origin in
    let y = c.args.y in
    let colours = g.C.Colouring.colours c.args.colouring.now in
    let small : y < 65536 = omega (arith, c.ranges.y) in
    let none = none_here d.setup c.windowed.result (in_window r o) _ (pos y -ℤ o.y) c.windowed.ensures (less_plain y o.y c.less-row.result small c.requires.y c.less-row.ensures) c.in_default.ensures in
    becomes_alike s.holds g.met.S.Surface.alike c.args.surface.now c.args.surface.now (λ f. f) (drawn_at (in_row y r.x1 r.x2) o (pair_by s.kept d colours g.B.Blending.blend))
    (row_stays s.kept d colours g.B.Blending.blend o r y (no_places d.setup r o y (pos y -ℤ o.y) none (λ i. pos y -ℤ o.y) c.requires.from c.requires.until))
    (λ f h. h)

pub on_screen-left-requires-clause-low : goal.on_screen-left-requires-clause-low
on_screen-left-requires-clause-low g c =
    let r = c.args.rect.now in
    let o = c.args.origin in
    let y = c.args.y in
    let small : y < 65536 = omega (arith, c.ranges.y) in
    let span = span_here c.args.self.now.setup c.windowed.result (in_window r o) _ (pos y -ℤ o.y) c.in-Some.span c.windowed.ensures (less_plain y o.y c.less-row.result small c.requires.y c.less-row.ensures) c.in-Some.ensures in
    let run = is_run c.args.self.now.setup r o (pos y -ℤ o.y) c.in-Some.span c.requires.x c.requires.small.right span in
    rw (run.x1_plain, run.left_plain) run.low

pub on_screen-left-requires-clause-high : goal.on_screen-left-requires-clause-high
on_screen-left-requires-clause-high g c =
    let r = c.args.rect.now in
    let o = c.args.origin in
    let y = c.args.y in
    let small : y < 65536 = omega (arith, c.ranges.y) in
    let span = span_here c.args.self.now.setup c.windowed.result (in_window r o) _ (pos y -ℤ o.y) c.in-Some.span c.windowed.ensures (less_plain y o.y c.less-row.result small c.requires.y c.less-row.ensures) c.in-Some.ensures in
    let run = is_run c.args.self.now.setup r o (pos y -ℤ o.y) c.in-Some.span c.requires.x c.requires.small.right span in
    rw (run.x1_plain, run.left_plain) (omega (arith, ints, run.some, run.high, c.requires.small.right))

pub on_screen-right-requires-clause-high : goal.on_screen-right-requires-clause-high
on_screen-right-requires-clause-high g c =
    let r = c.args.rect.now in
    let o = c.args.origin in
    let y = c.args.y in
    let small : y < 65536 = omega (arith, c.ranges.y) in
    let span = span_here c.args.self.now.setup c.windowed.result (in_window r o) _ (pos y -ℤ o.y) c.in-Some.span c.windowed.ensures (less_plain y o.y c.less-row.result small c.requires.y c.less-row.ensures) c.in-Some.ensures in
    let run = is_run c.args.self.now.setup r o (pos y -ℤ o.y) c.in-Some.span c.requires.x c.requires.small.right span in
    rw (run.x2_plain, run.left_plain) (omega (arith, ints, run.high, c.requires.small.right))

pub brush_at-brush-requires-clause-covered : goal.brush_at-brush-requires-clause-covered
brush_at-brush-requires-clause-covered g c a from until =
    let r = c.args.rect.now in
    let o = c.args.origin in
    let y = c.args.y in
    let small : y < 65536 = omega (arith, c.ranges.y) in
    let here = less_plain y o.y c.less-row.result small c.requires.y c.less-row.ensures in
    let span = span_here c.args.self.now.setup c.windowed.result (in_window r o) _ (pos y -ℤ o.y) c.in-Some.span c.windowed.ensures here c.in-Some.ensures in
    let run = is_run c.args.self.now.setup r o (pos y -ℤ o.y) c.in-Some.span c.requires.x c.requires.small.right span in
    let lefts : pos c.on_screen-left.result ≡ (c.in-Some.span.x1 +ℤ o.x) = c.on_screen-left.ensures ∙ (λ i. run.x1_plain i +ℤ run.left_plain i) in
    let rights : pos c.on_screen-right.result ≡ (c.in-Some.span.x2 +ℤ o.x) = c.on_screen-right.ensures ∙ (λ i. run.x2_plain i +ℤ run.left_plain i) in
    rw (run.left_plain, here) (run_covered c.args.self.now.setup r o y (pos y -ℤ o.y) c.in-Some.span c.on_screen-left.result c.on_screen-right.result span lefts rights a from until)

pub draw_run-requires-clause-some : goal.draw_run-requires-clause-some
draw_run-requires-clause-some g c =
    let r = c.args.rect.now in
    let o = c.args.origin in
    let y = c.args.y in
    let small : y < 65536 = omega (arith, c.ranges.y) in
    let span = span_here c.args.self.now.setup c.windowed.result (in_window r o) _ (pos y -ℤ o.y) c.in-Some.span c.windowed.ensures (less_plain y o.y c.less-row.result small c.requires.y c.less-row.ensures) c.in-Some.ensures in
    let run = is_run c.args.self.now.setup r o (pos y -ℤ o.y) c.in-Some.span c.requires.x c.requires.small.right span in
    let lefts : pos c.on_screen-left.result ≡ (c.in-Some.span.x1 +ℤ o.x) = c.on_screen-left.ensures ∙ (λ i. run.x1_plain i +ℤ run.left_plain i) in
    let rights : pos c.on_screen-right.result ≡ (c.in-Some.span.x2 +ℤ o.x) = c.on_screen-right.ensures ∙ (λ i. run.x2_plain i +ℤ run.left_plain i) in
    omega (arith, ints, lefts, rights, run.some)

pub draw_run-requires-clause-columns : goal.draw_run-requires-clause-columns
draw_run-requires-clause-columns g c =
    let r = c.args.rect.now in
    let o = c.args.origin in
    let y = c.args.y in
    let small : y < 65536 = omega (arith, c.ranges.y) in
    let span = span_here c.args.self.now.setup c.windowed.result (in_window r o) _ (pos y -ℤ o.y) c.in-Some.span c.windowed.ensures (less_plain y o.y c.less-row.result small c.requires.y c.less-row.ensures) c.in-Some.ensures in
    let run = is_run c.args.self.now.setup r o (pos y -ℤ o.y) c.in-Some.span c.requires.x c.requires.small.right span in
    let rights : pos c.on_screen-right.result ≡ (c.in-Some.span.x2 +ℤ o.x) = c.on_screen-right.ensures ∙ (λ i. run.x2_plain i +ℤ run.left_plain i) in
    omega (arith, ints, rights, run.high, c.requires.within.right)

pub returns-clause-pairs : goal.returns-clause-pairs
returns-clause-pairs g c =
    let s = g.S.Surface in
    let d = c.args.self.now in
    let r = c.args.rect.now in
    let o = c.args.origin in
    let y = c.args.y in
    let blend = g.B.Blending.blend in
    let colours = g.C.Colouring.colours c.args.colouring.now in
    let left = c.on_screen-left.result in
    let right = c.on_screen-right.result in
    let new = c.draw_run.new.self in
    let small : y < 65536 = omega (arith, c.ranges.y) in
    let here = less_plain y o.y c.less-row.result small c.requires.y c.less-row.ensures in
    let span = span_here d.setup c.windowed.result (in_window r o) _ (pos y -ℤ o.y) c.in-Some.span c.windowed.ensures here c.in-Some.ensures in
    let run = is_run d.setup r o (pos y -ℤ o.y) c.in-Some.span c.requires.x c.requires.small.right span in
    let lefts : pos left ≡ (c.in-Some.span.x1 +ℤ o.x) = c.on_screen-left.ensures ∙ (λ i. run.x1_plain i +ℤ run.left_plain i) in
    let rights : pos right ≡ (c.in-Some.span.x2 +ℤ o.x) = c.on_screen-right.ensures ∙ (λ i. run.x2_plain i +ℤ run.left_plain i) in
    let brush = c.brush_at-brush.ensures in
    let row_is = brush.row ∙ here in
    let left_is = brush.left ∙ run.left_plain in
    let painted_run : PairsBecome s.holds c.args.surface.now new (run_painted s.kept (λ x under. painted d.depth_test d.depth_write colours blend d.setup (pos x -ℤ o.x) (pos y -ℤ o.y) under) y left right) =
    subst (λ paint. PairsBecome s.holds c.args.surface.now new (run_painted s.kept paint y left right))
    (λ i x under. painted (brush.depth_test i) (brush.depth_write i) (brush.colours i) blend (brush.setup i) (pos x -ℤ left_is i) (row_is i) under) c.draw_run.ensures.pairs in
    becomes_alike s.holds g.met.S.Surface.alike c.args.surface.now new
    (run_painted s.kept (λ x under. painted d.depth_test d.depth_write colours blend d.setup (pos x -ℤ o.x) (pos y -ℤ o.y) under) y left right)
    (drawn_at (in_row y r.x1 r.x2) o (pair_by s.kept d colours blend))
    (run_is_row s.kept d colours blend o r y (pos y -ℤ o.y) left right (λ i. pos y -ℤ o.y) (run_places d.setup r o y (pos y -ℤ o.y) c.in-Some.span left right span (λ i. pos y -ℤ o.y) c.requires.from c.requires.until lefts rights))
    painted_run

pub returns-clause-bound : goal.returns-clause-bound
returns-clause-bound g c =
    let d = c.args.self.now in
    let r = c.args.rect.now in
    let o = c.args.origin in
    let y = c.args.y in
    let small : y < 65536 = omega (arith, c.ranges.y) in
    let here = less_plain y o.y c.less-row.result small c.requires.y c.less-row.ensures in
    let span = span_here d.setup c.windowed.result (in_window r o) _ (pos y -ℤ o.y) c.in-Some.span c.windowed.ensures here c.in-Some.ensures in
    let run = is_run d.setup r o (pos y -ℤ o.y) c.in-Some.span c.requires.x c.requires.small.right span in
    let lefts : pos c.on_screen-left.result ≡ (c.in-Some.span.x1 +ℤ o.x) = c.on_screen-left.ensures ∙ (λ i. run.x1_plain i +ℤ run.left_plain i) in
    let rights : pos c.on_screen-right.result ≡ (c.in-Some.span.x2 +ℤ o.x) = c.on_screen-right.ensures ∙ (λ i. run.x2_plain i +ℤ run.left_plain i) in
    let counts = run_counts d.setup r o y c.in-Some.span c.on_screen-left.result c.on_screen-right.result span lefts rights in
    let cost = c.draw_run.ensures.cost in
    omega (arith, counts, cost)
