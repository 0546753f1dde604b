-- The columns in which the line has a pixel are drawn one after another.
use Rattle.std.proofs.Common.{◌+◌, ◌*◌, ◌≤◌, rules, subst, arith}
use Rattle.dri_base.specs.Planes.{in_rect}
use Rattle.dri_card16.specs.Dots.{AreColumns}
use Rattle.dri_card16.specs.Lines.{along, left_on, places_in}
use Rattle.dri_card16.proofs.LineColumns.{all_drawn, column_has, columns_more, none_yet}
use Rattle.dri_card16.proofs.LineNumbers.{along_is_place, shift_along}
use Rattle.dri_card16.proofs.LinePlaces.{fewer_columns, one_more}
use Rattle.dri_model.specs.Words.{card_image, rules_in}
use Rattle.dri_walk.specs.Samplings.{byte_in}
use Rattle.dri_walk.specs.Surfaces.{PairsBecome, drawn_at}
use Rattle.dri_card16.proofs.line_drawing.draw_line.Goals as goal

pub columns-start-requires-clause-shift : goal.columns-start-requires-clause-shift
columns-start-requires-clause-shift g c = along_is_place c.new-line.result c.args.origin c.laid_point-shift.result c.requires.x c.requires.y c.laid_point-shift.ensures

pub loop-n-init : goal.loop-n-init
loop-n-init g c =
    let r = c.args.registers.now in
    let l = c.new-line.result in
    let clip = c.args.clip.now in
    let o = c.args.origin in
    let laid = c.laid_clip-laid.ensures in
    let shift = shift_along l o c.laid_point-shift.result c.requires.x c.requires.y c.laid_point-shift.ensures in
    let are : AreColumns l (along l clip.x1 clip.y1) (along l clip.x2 clip.y2) (along l o.x o.y) c.columns-start.result.0 c.columns-start.result.1 = subst (λ k. k) (λ i. AreColumns l (laid i).x1 (laid i).x2 (shift i) c.columns-start.result.0 c.columns-start.result.1) c.columns-start.ensures.pixels in
    record {
      width = search rules;
      height = search rules;
      pairs = none_yet g.S.Surface.holds g.met.S.Surface.alike c.args.surface.now g.S.Surface.kept (rules_in r) (card_image (byte_in c.args.memory.now) r.bound) l clip o c.columns-start.result.0 c.columns-start.result.1 are;
      bound = omega arith;
    }

pub draw_in-requires-clause-within : goal.draw_in-requires-clause-within
draw_in-requires-clause-within g c = rw (c.loop-n.invariant.width, c.loop-n.invariant.height) c.requires.within

pub draw_in-requires-clause-pixel : goal.draw_in-requires-clause-pixel
draw_in-requires-clause-pixel g c =
    let l = c.new-line.result in
    let clip = c.args.clip.now in
    let o = c.args.origin in
    let laid = c.laid_clip-laid.ensures in
    let shift = shift_along l o c.laid_point-shift.result c.requires.x c.requires.y c.laid_point-shift.ensures in
    let are : AreColumns l c.laid_clip-laid.result.x1 c.laid_clip-laid.result.x2 (along l o.x o.y) c.columns-start.result.0 c.columns-start.result.1 = subst (λ k. AreColumns l c.laid_clip-laid.result.x1 c.laid_clip-laid.result.x2 k c.columns-start.result.0 c.columns-start.result.1) shift c.columns-start.ensures.pixels in
    column_has l c.laid_clip-laid.result.x1 c.laid_clip-laid.result.x2 (along l o.x o.y) c.columns-start.result.0 c.columns-start.result.1 c.loop-n.n are c.columns-start.ensures.from c.columns-start.ensures.to (omega arith) (omega arith)

pub loop-n-preserved : goal.loop-n-preserved
loop-n-preserved g c =
    let r = c.args.registers.now in
    let l = c.new-line.result in
    let clip = c.args.clip.now in
    let o = c.args.origin in
    let from : along l clip.x1 clip.y1 ≤ c.loop-n.n = subst (λ k. k.x1 ≤ c.loop-n.n) c.laid_clip-laid.ensures (omega (arith, c.columns-start.ensures.from)) in
    record {
      width = search rules;
      height = search rules;
      pairs = columns_more g.S.Surface.holds g.met.S.Surface.alike c.args.surface.now c.loop-n.surface c.draw_in.new.surface l clip o c.loop-n.n (left_on g.S.Surface.kept (rules_in r) (card_image (byte_in c.args.memory.now) r.bound) l) c.loop-n.invariant.pairs c.draw_in.ensures.pairs;
      bound =
          let more = one_more l clip o c.loop-n.n from in
          let column = c.draw_in.ensures.bound in
          let seen = c.loop-n.invariant.bound in
          omega (arith, more, column, seen);
    }

pub returns-clause-pairs : goal.returns-clause-pairs
returns-clause-pairs g c =
    let r = c.args.registers.now in
    let image = card_image (byte_in c.args.memory.now) r.bound in
    let l = c.new-line.result in
    let clip = c.args.clip.now in
    let o = c.args.origin in
    let laid = c.laid_clip-laid.ensures in
    let shift = shift_along l o c.laid_point-shift.result c.requires.x c.requires.y c.laid_point-shift.ensures in
    let are : AreColumns l (along l clip.x1 clip.y1) (along l clip.x2 clip.y2) (along l o.x o.y) c.columns-start.result.0 c.columns-start.result.1 = subst (λ k. k) (λ i. AreColumns l (laid i).x1 (laid i).x2 (shift i) c.columns-start.result.0 c.columns-start.result.1) c.columns-start.ensures.pixels in
    subst (λ k. PairsBecome g.S.Surface.holds c.args.surface.now c.loop-n.surface (drawn_at (in_rect clip) o (left_on g.S.Surface.kept (rules_in r) image k))) c.new-line.ensures.value
    (all_drawn g.S.Surface.holds g.met.S.Surface.alike c.args.surface.now c.loop-n.surface g.S.Surface.kept (rules_in r) image l clip o c.columns-start.result.0 c.columns-start.result.1 c.loop-n.n are (omega arith) c.loop-n.invariant.pairs)

pub returns-clause-width : goal.returns-clause-width
returns-clause-width g c = c.loop-n.invariant.width

pub returns-clause-height : goal.returns-clause-height
returns-clause-height g c = c.loop-n.invariant.height

pub returns-clause-bound : goal.returns-clause-bound
returns-clause-bound g c =
    let l = c.new-line.result in
    let clip = c.args.clip.now in
    let o = c.args.origin in
    let to : c.loop-n.n ≤ along l clip.x2 clip.y2 = subst (λ k. c.loop-n.n ≤ k.x2) c.laid_clip-laid.ensures (omega (arith, c.columns-start.ensures.order, c.columns-start.ensures.to)) in
    let fewer = fewer_columns l clip o c.loop-n.n (along l clip.x2 clip.y2) to in
    let seen = c.loop-n.invariant.bound in
    subst (λ k. c.loop-n.steps ≤ c.args.steps.now + 4 * places_in k clip o (along k clip.x2 clip.y2)) c.new-line.ensures.value (omega (arith, fewer, seen))
