-- The words of the front plane show what is kept of its colours.
use Rattle.std.proofs.Common.{ap, map, ◌∙◌}
use Rattle.dri_base.specs.Texels.{sixteen_bits}
use Rattle.dri_card16.specs.Packing.{pack}
use Rattle.dri_card16.proofs.Seen.{ok_then, plane_seen}
use Rattle.dri_card16.proofs.opening.opening_words.Goals as goal
use Rattle.dri_model.specs.Stacks.{ground_colour, top}

pub returns-clause-shown : goal.returns-clause-shown
returns-clause-shown g c =
    ok_then c.packed.result
    (λ front words. ap (map sixteen_bits) (words (λ x y. ground_colour c.args.scene.now.root (top c.args.scene.now.windows x y)) c.in_ok-colours.ensures.shown)
    ∙ plane_seen front.width front.height (λ x y. pack (ground_colour c.args.scene.now.root (top c.args.scene.now.windows x y))))
    c.packed.ensures.pixels
