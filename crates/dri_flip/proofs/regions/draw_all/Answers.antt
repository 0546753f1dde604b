-- One rectangle more.
use Rattle.std.proofs.Common.{take, ◌∙◌, arith}
use Rattle.dri_model.specs.Words.{card_image, rules_in}
use Rattle.dri_walk.specs.Samplings.{byte_in}
use Rattle.dri_card.specs.Contents.{empty_clip}
use Rattle.dri_flip.specs.Calls.{drawn_in}
use Rattle.dri_flip.proofs.Steps.{covered_more, drawn_next}
use Rattle.dri_flip.proofs.regions.draw_all.Goals as goal

pub loop-rect-preserved : goal.loop-rect-preserved
loop-rect-preserved g c =
    let rects = c.args.rects.now in
    let i = c.loop-rect.rect-index in
    let seen = c.loop-rect.invariant in
    let rules = rules_in c.args.registers.now in
    let image = card_image (byte_in c.args.memory.now) c.args.registers.now.bound in
    let new = c.draw_triangle.new.surface in
    record {
      pairs = λ f holds. drawn_next new.back new.depth rects i _ c.args.origin rules image c.args.triangle.now f (omega arith) c.requires.apart
          (c.draw_triangle.ensures.pairs (drawn_in (take i rects) c.args.origin rules image c.args.triangle.now f) (seen.pairs f holds));
      width = c.draw_triangle.ensures.width ∙ seen.width;
      height = c.draw_triangle.ensures.height ∙ seen.height;
      cost =
          let more = covered_more rects i empty_clip c.args.triangle.now c.args.origin (omega arith) in
          let one = c.draw_triangle.ensures.bound in
          let before = seen.cost in
          omega (arith, more, one, before);
    }
