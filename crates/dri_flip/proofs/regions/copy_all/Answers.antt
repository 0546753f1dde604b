-- One rectangle more.
use Rattle.std.proofs.Common.{◌∙◌, arith}
use Rattle.dri_card.specs.Contents.{empty_clip}
use Rattle.dri_flip.proofs.Rects.{counts_more}
use Rattle.dri_flip.proofs.Steps.{swapped_next}
use Rattle.dri_flip.proofs.regions.copy_all.Goals as goal

pub loop-rect-preserved : goal.loop-rect-preserved
loop-rect-preserved g c =
    let rects = c.args.rects.now in
    let i = c.loop-rect.rect-index in
    let seen = c.loop-rect.invariant in
    record {
      shown = λ f shown held holds. swapped_next c.loop-rect.front c.copy_from.new.self rects i _ f shown (omega arith) c.copy_from.ensures.width c.copy_from.ensures.height
          (c.copy_from.ensures.pixels (λ x y. (f x y).colour) held) (seen.shown f shown held holds);
      width = c.copy_from.ensures.width ∙ seen.width;
      height = c.copy_from.ensures.height ∙ seen.height;
      cost =
          let more = counts_more rects i empty_clip (omega arith) in
          let one = c.copy_from.ensures.cost in
          let before = seen.cost in
          omega (arith, more, one, before);
    }
