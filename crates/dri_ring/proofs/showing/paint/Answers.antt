-- One paint more.
use Rattle.std.proofs.Common.{take, ◌+◌, ◌∙◌, ap, arith, refl}
use Rattle.dri_clips.specs.Paints.{filled}
use Rattle.dri_replay.proofs.Stacked.{filled_next}
use Rattle.dri_ring.specs.Rings.{Ring}
use Rattle.dri_ring.proofs.Shown.{only_shown, paint_inside, painted_all, shows_same}
use Rattle.dri_ring.proofs.showing.paint.Goals as goal

pub loop-paint-init : goal.loop-paint-init
loop-paint-init c = record { shown = λ shown shows. shows; others = refl }

pub paint-requires-clause-idle : goal.paint-requires-clause-idle
paint-requires-clause-idle c = ap (λ (v : Ring). v.pending) c.loop-paint.invariant.others ∙ c.requires.idle

pub paint-requires-clause-inside : goal.paint-requires-clause-inside
paint-requires-clause-inside c = paint_inside c.args.engine.now c.loop-paint.engine c.args.paints.now c.loop-paint.paint-index _ (omega arith) c.loop-paint.invariant.others c.requires.on

pub loop-paint-preserved : goal.loop-paint-preserved
loop-paint-preserved c = record {
  shown = λ shown shows. shows_same c.paint.new.self _ (filled (take (c.loop-paint.paint-index + 1) c.args.paints.now) shown)
      (filled_next c.args.paints.now c.loop-paint.paint-index _ shown (omega arith))
      (c.paint.ensures.shown (filled (take c.loop-paint.paint-index c.args.paints.now) shown) (c.loop-paint.invariant.shown shown shows));
  others = only_shown c.args.engine.now c.loop-paint.engine c.paint.new.self c.loop-paint.invariant.others c.paint.ensures.others;
}

pub returns-clause-shown : goal.returns-clause-shown
returns-clause-shown c = λ shown shows. painted_all c.loop-paint.engine c.args.paints.now c.loop-paint.paint-index shown (omega arith) (c.loop-paint.invariant.shown shown shows)
