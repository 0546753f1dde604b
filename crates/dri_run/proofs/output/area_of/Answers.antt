-- The area is the world's, and the bytes are its image.
use Rattle.std.proofs.Common.{◌∙◌, ap}
use Rattle.dri_sarea.specs.Images.{area_bytes}
use Rattle.dri_run.proofs.output.area_of.Goals as goal

pub returns-clause-picture : goal.returns-clause-picture
returns-clause-picture c = c.in_ok-picture.ensures.image ∙ ap area_bytes c.in_ok-area.ensures
