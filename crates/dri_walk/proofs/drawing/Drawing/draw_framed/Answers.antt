-- One row more, and all.
use Rattle.std.proofs.Common.{◌≡◌, rules, arith, subst}
use Rattle.dri_walk.specs.Drawings.{pair_by}
use Rattle.dri_walk.specs.Surfaces.{PairsBecome, drawn_at}
use Rattle.dri_walk.proofs.Counts.{places_from}
use Rattle.dri_walk.proofs.Painting.{no_rows, none_drawn, rows_before, rows_more}
use Rattle.dri_walk.proofs.drawing.Drawing.draw_framed.Goals as goal

pub loop-y-init : goal.loop-y-init
loop-y-init g c = record {
  width = search rules;
  height = search rules;
  pairs = none_drawn g.S.Surface.holds g.met.S.Surface.alike c.args.surface.now (rows_before c.args.rect.now c.args.rect.now.y1) c.args.origin (pair_by g.S.Surface.kept c.args.self.now (g.C.Colouring.colours c.args.colouring.now) g.B.Blending.blend) (no_rows c.args.rect.now);
  bound = omega arith;
}

pub loop-y-preserved : goal.loop-y-preserved
loop-y-preserved g c = record {
  width = search rules;
  height = search rules;
  pairs = rows_more g.S.Surface.holds g.met.S.Surface.alike c.args.surface.now c.loop-y.surface c.draw_row.new.surface c.args.rect.now c.loop-y.y c.args.origin (pair_by g.S.Surface.kept c.args.self.now (g.C.Colouring.colours c.args.colouring.now) g.B.Blending.blend) (omega arith)
      c.loop-y.invariant.pairs c.draw_row.ensures.pairs;
  bound =
      let more = places_from c.args.self.now.setup c.args.rect.now c.args.origin c.loop-y.y (omega arith) in
      let row = c.draw_row.ensures.bound in
      let seen = c.loop-y.invariant.bound in
      omega (arith, more, row, seen);
}

pub returns-clause-pairs : goal.returns-clause-pairs
returns-clause-pairs g c =
    let end : c.loop-y.y ≡ c.args.rect.now.y2 = omega arith in
    subst (λ y. PairsBecome g.S.Surface.holds c.args.surface.now c.loop-y.surface (drawn_at (rows_before c.args.rect.now y) c.args.origin (pair_by g.S.Surface.kept c.args.self.now (g.C.Colouring.colours c.args.colouring.now) g.B.Blending.blend))) end c.loop-y.invariant.pairs
