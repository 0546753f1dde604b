-- One rectangle more.
use Rattle.std.proofs.Common.{take, ◌∙◌, arith}
use Rattle.dri_card.specs.Contents.{empty_clip}
use Rattle.dri_flip.specs.Calls.{cleared_in}
use Rattle.dri_flip.proofs.Rects.{counts_more}
use Rattle.dri_flip.proofs.Steps.{cleared_next}
use Rattle.dri_flip.proofs.regions.clear_all.Goals as goal

pub loop-rect-preserved : goal.loop-rect-preserved
loop-rect-preserved g c =
    let rects = c.args.rects.now in
    let i = c.loop-rect.rect-index in
    let seen = c.loop-rect.invariant in
    record {
      pairs = λ f holds. cleared_next c.clear.new.self.back c.clear.new.self.depth rects i _ c.args.colour c.args.depth f (omega arith)
          (c.clear.ensures.pairs (cleared_in (take i rects) c.args.colour c.args.depth f) (seen.pairs f holds));
      width = c.clear.ensures.width ∙ seen.width;
      height = c.clear.ensures.height ∙ seen.height;
      cost =
          let more = counts_more rects i empty_clip (omega arith) in
          let one = c.clear.ensures.cost in
          let before = seen.cost in
          omega (arith, more, one, before);
    }
