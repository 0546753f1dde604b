-- Each picture is whole, and each end has one.
use Rattle.std.proofs.Common.{◌≡◌, ◌*◌, All, List, length, subst, sym}
use Rattle.std.specs.Arc.{arc_value}
use Rattle.dri_base.specs.declared.colour.Rgb.{Rgb}
use Rattle.dri_base.specs.declared.scene.Scene.{Scene}
use Rattle.dri_lab_run.proofs.Found.{has_pictures, whole_pictures}
use Rattle.dri_lab_run.proofs.all.all_of.Goals as goal

pub images_of-requires-clause-pixels : goal.images_of-requires-clause-pixels
images_of-requires-clause-pixels c =
    let found = c.in-Ok-all_ends.found in
    let s = arc_value c.in-Ok.scene in
    let whole = whole_pictures s c.args.events found c.in-Ok-all_ends.ensures in
    subst (λ (z : Scene). All (λ picture. length picture ≡ z.width * z.height) c.as_slice.result.now) (sym c.deref.ensures)
    (subst (λ (pictures : List (List Rgb)). All (λ picture. length picture ≡ s.width * s.height) pictures) (sym c.as_slice.ensures) whole)

pub notes_of-requires : goal.notes_of-requires
notes_of-requires c = has_pictures (arc_value c.in-Ok.scene) c.args.events c.in-Ok-all_ends.found c.in-Ok-all_ends.ensures
