-- One paint more.
use Rattle.std.proofs.Common.{arith, rules, IsOk}
use Rattle.dri_card16.proofs.Made16.{painted_kept}
use Rattle.dri_draw.proofs.Drawn.{on_ok, only_shown}
use Rattle.dri_card16.proofs.showing.paint.Goals as goal

pub loop-paint-preserved : goal.loop-paint-preserved
loop-paint-preserved g c = let ok : IsOk c.paint.result = search rules in record {
  shown = λ front shows. painted_kept c.loop-paint.card c.paint.new.self c.args.paints.now c.loop-paint.paint-index _ front (omega arith)
      (on_ok c.paint.result _ ok c.paint.ensures.ok) (c.loop-paint.invariant.shown front shows);
  others = only_shown c.args.card.now c.loop-paint.card c.paint.new.self c.loop-paint.invariant.others c.paint.ensures.others;
  sides = λ w h s. c.paint.ensures.sides w h (c.loop-paint.invariant.sides w h s);
}
