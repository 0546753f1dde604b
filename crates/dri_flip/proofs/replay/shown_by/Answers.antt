-- What is shown is the card's front.
use Rattle.std.proofs.Common.{◌∙◌, ap, refl}
use Rattle.dri_base.specs.declared.colour.Rgb.{Rgb}
use Rattle.dri_plane.specs.Grids.{Grid}
use Rattle.dri_flip.proofs.Followed.{shown_is}
use Rattle.dri_flip.proofs.replay.shown_by.Goals as goal

pub returns : goal.returns
returns c =
    let is = c.in_ok-picture.ensures in
    shown_is c.args.replay.now c.args.card.now _ c.requires c.entries.ensures.run
    (is.width ∙ ap (λ (f : Grid Rgb). f.width) c.front.ensures) (is.height ∙ ap (λ (f : Grid Rgb). f.height) c.front.ensures)
    (is.pixels ∙ ap (λ (f : Grid Rgb). f.pixels) c.front.ensures) refl refl
