-- What the line has in a column is a dot at one place of the clip, or nothing.
use Rattle.std.proofs.Common.{◌≡◌, ◌+◌, ◌≤◌, ◌<◌, pos, ◌+ℤ◌, ◌-ℤ◌, true, ◌&&◌, sym, ◌∙◌, subst}
use Rattle.dri_card16.specs.Dots.{dot, is_among, vertex_in}
use Rattle.dri_card16.specs.Lines.{across, along, has_place, row_in}
use Rattle.dri_card16.proofs.LineColumns.{nothing_drawn, place_drawn}
use Rattle.dri_card16.proofs.LineDots.{one_place}
use Rattle.dri_card16.proofs.LineNumbers.{across_below, across_is_place, along_below, among, column_near, column_plain, corner_near, corner_plain, corner_small, one_cost, placed_inside, row_plain, shift_across}
use Rattle.dri_card16.proofs.LinePlaces.{placed_is}
use Rattle.dri_model.specs.Words.{card_image, rules_in}
use Rattle.dri_walk.specs.Samplings.{byte_in}
use Rattle.dri_card16.proofs.line.Line.draw_in.Goals as goal

pub row_in-requires-clause-near : goal.row_in-requires-clause-near
row_in-requires-clause-near g c =
    let l = c.args.self.now in
    let clip = c.args.clip.now in
    let o = c.args.origin in
    let small = along_below l clip c.args.n 1024 c.requires.small c.requires.until in
    column_near l o c.laid_point-shift.result c.args.n c.less-column.result small c.requires.x c.requires.y c.laid_point-shift.ensures c.less-column.ensures

pub place_among-requires-clause-shift : goal.place_among-requires-clause-shift
place_among-requires-clause-shift g c =
    across_is_place c.args.self.now c.args.origin c.laid_point-shift.result c.requires.x c.requires.y c.laid_point-shift.ensures

pub returns-in_default-clause-pairs : goal.returns-in_default-clause-pairs
returns-in_default-clause-pairs g c =
    let l = c.args.self.now in
    let clip = c.args.clip.now in
    let o = c.args.origin in
    let small = along_below l clip c.args.n 1024 c.requires.small c.requires.until in
    let column = column_plain l o c.laid_point-shift.result c.args.n c.less-column.result small c.requires.x c.requires.y c.laid_point-shift.ensures c.less-column.ensures in
    let row = row_plain c.row_in.result (row_in l (pos c.args.n -ℤ along l o.x o.y)) c.row_in.ensures.small (c.row_in.ensures.value ∙ (λ i. row_in l (column i))) in
    let shift = shift_across l o c.laid_point-shift.result c.requires.x c.requires.y c.laid_point-shift.ensures in
    let out = sym (λ i. is_among (c.laid_clip-laid.ensures i).y1 (c.laid_clip-laid.ensures i).y2 (row i +ℤ shift i)) ∙ c.in_default.ensures in
    nothing_drawn g.S.Surface.holds g.met.S.Surface.alike c.args.surface.now g.S.Surface.kept (rules_in c.args.registers.now) (card_image (byte_in c.args.memory.now) c.args.registers.now.bound) l clip o c.args.n out

pub placed-place-requires-clause-n : goal.placed-place-requires-clause-n
placed-place-requires-clause-n g c =
    along_below c.args.self.now c.args.clip.now c.args.n 1024 c.requires.small c.requires.until

pub placed-place-requires-clause-m : goal.placed-place-requires-clause-m
placed-place-requires-clause-m g c =
    let l = c.args.self.now in
    let clip = c.args.clip.now in
    let m = c.in-Some.m in
    let until : m < across l clip.x2 clip.y2 = subst (λ r. m < r.y2) c.laid_clip-laid.ensures c.in-Some.ensures.2 in
    across_below l clip m 1024 c.requires.small until

pub vertex_in-vertex-requires-clause-near : goal.vertex_in-vertex-requires-clause-near
vertex_in-vertex-requires-clause-near g c =
    let l = c.args.self.now in
    let clip = c.args.clip.now in
    let o = c.args.origin in
    let small = along_below l clip c.args.n 1024 c.requires.small c.requires.until in
    column_near l o c.laid_point-shift.result c.args.n c.less-column.result small c.requires.x c.requires.y c.laid_point-shift.ensures c.less-column.ensures

pub dot-dot-requires-clause-x : goal.dot-dot-requires-clause-x
dot-dot-requires-clause-x g c =
    let l = c.args.self.now in
    let clip = c.args.clip.now in
    let m = c.in-Some.m in
    let until : m < across l clip.x2 clip.y2 = subst (λ r. m < r.y2) c.laid_clip-laid.ensures c.in-Some.ensures.2 in
    let there = c.placed-place.ensures in
    let wide : c.placed-place.result.x2 ≡ c.placed-place.result.x1 + 1 = (λ i. (there i).x2) ∙ sym (λ i. (there i).x1 + 1) in
    let high : c.placed-place.result.y2 ≡ c.placed-place.result.y1 + 1 = (λ i. (there i).y2) ∙ sym (λ i. (there i).y1 + 1) in
    let corner = corner_small c.placed-place.result (placed_inside l clip c.placed-place.result c.args.n m 1024 1024 there c.requires.small c.requires.until until) wide high in
    corner_near c.placed-place.result.x1 c.args.origin.x c.less.result corner.0 c.requires.x c.less.ensures

pub dot-dot-requires-clause-y : goal.dot-dot-requires-clause-y
dot-dot-requires-clause-y g c =
    let l = c.args.self.now in
    let clip = c.args.clip.now in
    let m = c.in-Some.m in
    let until : m < across l clip.x2 clip.y2 = subst (λ r. m < r.y2) c.laid_clip-laid.ensures c.in-Some.ensures.2 in
    let there = c.placed-place.ensures in
    let wide : c.placed-place.result.x2 ≡ c.placed-place.result.x1 + 1 = (λ i. (there i).x2) ∙ sym (λ i. (there i).x1 + 1) in
    let high : c.placed-place.result.y2 ≡ c.placed-place.result.y1 + 1 = (λ i. (there i).y2) ∙ sym (λ i. (there i).y1 + 1) in
    let corner = corner_small c.placed-place.result (placed_inside l clip c.placed-place.result c.args.n m 1024 1024 there c.requires.small c.requires.until until) wide high in
    corner_near c.placed-place.result.y1 c.args.origin.y c.less-2.result corner.1 c.requires.y c.less-2.ensures

pub draw_triangle-requires-clause-within : goal.draw_triangle-requires-clause-within
draw_triangle-requires-clause-within g c =
    let l = c.args.self.now in
    let clip = c.args.clip.now in
    let m = c.in-Some.m in
    let until : m < across l clip.x2 clip.y2 = subst (λ r. m < r.y2) c.laid_clip-laid.ensures c.in-Some.ensures.2 in
    placed_inside l clip c.placed-place.result c.args.n m _ _ c.placed-place.ensures c.requires.within c.requires.until until

pub draw_triangle-requires-clause-small : goal.draw_triangle-requires-clause-small
draw_triangle-requires-clause-small g c =
    let l = c.args.self.now in
    let clip = c.args.clip.now in
    let m = c.in-Some.m in
    let until : m < across l clip.x2 clip.y2 = subst (λ r. m < r.y2) c.laid_clip-laid.ensures c.in-Some.ensures.2 in
    placed_inside l clip c.placed-place.result c.args.n m 1024 1024 c.placed-place.ensures c.requires.small c.requires.until until

pub returns-clause-pairs : goal.returns-clause-pairs
returns-clause-pairs g c =
    let r = c.args.registers.now in
    let l = c.args.self.now in
    let clip = c.args.clip.now in
    let o = c.args.origin in
    let small = along_below l clip c.args.n 1024 c.requires.small c.requires.until in
    let column = column_plain l o c.laid_point-shift.result c.args.n c.less-column.result small c.requires.x c.requires.y c.laid_point-shift.ensures c.less-column.ensures in
    let row = row_plain c.row_in.result (row_in l (pos c.args.n -ℤ along l o.x o.y)) c.row_in.ensures.small (c.row_in.ensures.value ∙ (λ i. row_in l (column i))) in
    let shift = shift_across l o c.laid_point-shift.result c.requires.x c.requires.y c.laid_point-shift.ensures in
    let m = c.in-Some.m in
    let until : m < across l clip.x2 clip.y2 = subst (λ r. m < r.y2) c.laid_clip-laid.ensures c.in-Some.ensures.2 in
    let from : across l clip.x1 clip.y1 ≤ m = subst (λ r. r.y1 ≤ m) c.laid_clip-laid.ensures c.in-Some.ensures.1 in
    let is : pos m ≡ (row_in l (pos c.args.n -ℤ along l o.x o.y) +ℤ across l o.x o.y) = c.in-Some.ensures.0 ∙ (λ i. row i +ℤ shift i) in
    let there = c.placed-place.ensures in
    let wide : c.placed-place.result.x2 ≡ c.placed-place.result.x1 + 1 = (λ i. (there i).x2) ∙ sym (λ i. (there i).x1 + 1) in
    let high : c.placed-place.result.y2 ≡ c.placed-place.result.y1 + 1 = (λ i. (there i).y2) ∙ sym (λ i. (there i).y1 + 1) in
    let corner = corner_small c.placed-place.result (placed_inside l clip c.placed-place.result c.args.n m 1024 1024 there c.requires.small c.requires.until until) wide high in
    let x = corner_plain c.placed-place.result.x1 o.x c.less.result corner.0 c.requires.x c.less.ensures ∙ (λ i. pos (there i).x1 -ℤ o.x) in
    let y = corner_plain c.placed-place.result.y1 o.y c.less-2.result corner.1 c.requires.y c.less-2.ensures ∙ (λ i. pos (there i).y1 -ℤ o.y) in
    let vertex = c.vertex_in-vertex.ensures ∙ (λ i. vertex_in r.shade l (column i)) in
    let dotted = c.dot-dot.ensures.value ∙ (λ i. dot (vertex i) (x i) (y i)) in
    let places = placed_is l clip o c.args.n m c.requires.pixel c.requires.from c.requires.until from until is in
    place_drawn g.S.Surface.holds g.met.S.Surface.alike c.args.surface.now c.draw_triangle.new.surface g.S.Surface.kept (rules_in r) (card_image (byte_in c.args.memory.now) r.bound) l clip o c.args.n m c.dot-dot.result c.placed-place.result dotted there places c.draw_triangle.ensures.pairs

pub returns-clause-bound : goal.returns-clause-bound
returns-clause-bound g c =
    let l = c.args.self.now in
    let clip = c.args.clip.now in
    let o = c.args.origin in
    let small = along_below l clip c.args.n 1024 c.requires.small c.requires.until in
    let column = column_plain l o c.laid_point-shift.result c.args.n c.less-column.result small c.requires.x c.requires.y c.laid_point-shift.ensures c.less-column.ensures in
    let row = row_plain c.row_in.result (row_in l (pos c.args.n -ℤ along l o.x o.y)) c.row_in.ensures.small (c.row_in.ensures.value ∙ (λ i. row_in l (column i))) in
    let shift = shift_across l o c.laid_point-shift.result c.requires.x c.requires.y c.laid_point-shift.ensures in
    let m = c.in-Some.m in
    let until : m < across l clip.x2 clip.y2 = subst (λ r. m < r.y2) c.laid_clip-laid.ensures c.in-Some.ensures.2 in
    let from : across l clip.x1 clip.y1 ≤ m = subst (λ r. r.y1 ≤ m) c.laid_clip-laid.ensures c.in-Some.ensures.1 in
    let is : pos m ≡ (row_in l (pos c.args.n -ℤ along l o.x o.y) +ℤ across l o.x o.y) = c.in-Some.ensures.0 ∙ (λ i. row i +ℤ shift i) in
    let there = c.placed-place.ensures in
    let wide : c.placed-place.result.x2 ≡ c.placed-place.result.x1 + 1 = (λ i. (there i).x2) ∙ sym (λ i. (there i).x1 + 1) in
    let high : c.placed-place.result.y2 ≡ c.placed-place.result.y1 + 1 = (λ i. (there i).y2) ∙ sym (λ i. (there i).y1 + 1) in
    let has : has_place l clip o c.args.n ≡ true = λ i. c.requires.pixel i && among (across l clip.x1 clip.y1) (across l clip.x2 clip.y2) m _ is from until i in
    one_cost c.draw_triangle.new.steps c.args.steps.now _ (has_place l clip o c.args.n) has c.draw_triangle.ensures.bound (one_place c.dot-dot.result c.placed-place.result o wide high)
