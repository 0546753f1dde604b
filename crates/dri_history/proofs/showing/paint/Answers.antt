-- One paint more.
use Rattle.std.proofs.Common.{take, ◌+◌, arith, rules, IsOk}
use Rattle.dri_clips.specs.Paints.{filled}
use Rattle.dri_draw.proofs.Drawn.{on_ok, only_shown, shows_same}
use Rattle.dri_replay.proofs.Stacked.{filled_next}
use Rattle.dri_history.proofs.showing.paint.Goals as goal

pub loop-paint-preserved : goal.loop-paint-preserved
loop-paint-preserved g c = let ok : IsOk c.paint.result = search rules in record {
  shown = λ front shows. shows_same c.paint.new.self _ (filled (take (c.loop-paint.paint-index + 1) c.args.paints.now) front)
      (filled_next c.args.paints.now c.loop-paint.paint-index _ front (omega arith))
      (on_ok c.paint.result _ ok c.paint.ensures.ok (filled (take c.loop-paint.paint-index c.args.paints.now) front) (c.loop-paint.invariant.shown front shows));
  others = only_shown c.args.card.now c.loop-paint.card c.paint.new.self c.loop-paint.invariant.others c.paint.ensures.others;
  sides = λ w h s. c.paint.ensures.sides w h (c.loop-paint.invariant.sides w h s);
}
