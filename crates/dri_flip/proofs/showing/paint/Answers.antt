-- One paint more.
use Rattle.std.proofs.Common.{take, ◌+◌, arith, refl}
use Rattle.dri_clips.specs.Paints.{filled}
use Rattle.dri_flip.proofs.Painting.{no_paint, on_card, one_paint_owed, only_shown, painted_all, shows_same}
use Rattle.dri_replay.proofs.Stacked.{filled_next}
use Rattle.dri_flip.proofs.showing.paint.Goals as goal

pub loop-paint-init : goal.loop-paint-init
loop-paint-init g c = record { shown = λ shown shows. shows; others = refl; sides = λ w h s. s; owed = no_paint c.args.card.now.owed }

pub paint-requires : goal.paint-requires
paint-requires g c = record { inside = on_card c.args.card.now c.loop-paint.card c.args.paints.now c.loop-paint.paint-index (record { rect = record { x1 = 0; y1 = 0; x2 = 0; y2 = 0 }; colour = record { r = 0; g = 0; b = 0 } }) (omega arith) c.requires.sides c.loop-paint.invariant.sides c.requires.on }

pub loop-paint-preserved : goal.loop-paint-preserved
loop-paint-preserved g c = record {
  shown = λ shown shows. shows_same c.paint.new.self _ (filled (take (c.loop-paint.paint-index + 1) c.args.paints.now) shown)
      (filled_next c.args.paints.now c.loop-paint.paint-index _ shown (omega arith))
      (c.paint.ensures.shown (filled (take c.loop-paint.paint-index c.args.paints.now) shown) (c.loop-paint.invariant.shown shown shows));
  others = only_shown c.args.card.now c.loop-paint.card c.paint.new.self c.loop-paint.invariant.others c.paint.ensures.others;
  sides = λ w h s. c.paint.ensures.sides w h (c.loop-paint.invariant.sides w h s);
  owed = one_paint_owed c.args.card.now c.loop-paint.card c.paint.new.self c.args.paints.now c.loop-paint.paint-index _ (omega arith) c.requires.sides c.loop-paint.invariant.sides c.requires.on c.loop-paint.invariant.owed c.paint.ensures.owed;
}

pub returns-clause-shown : goal.returns-clause-shown
returns-clause-shown g c = λ shown shows. painted_all c.loop-paint.card c.args.paints.now c.loop-paint.paint-index shown (omega arith) (c.loop-paint.invariant.shown shown shows)
