-- No rectangle so far has it.
use Rattle.std.proofs.Common.{◌≡◌, drop, is_some}
use Rattle.std.specs.List.{list_any}
use Rattle.dri_base.specs.Planes.{in_rect}
use Rattle.dri_base.specs.declared.shape.ClipRect.{ClipRect}
use Rattle.dri_model.specs.Stacks.{pixel_in}
use Rattle.dri_history.proofs.touching.have_pixel.Given as goal

abbrev pub invariant-loop-rect : goal.invariant-loop-rect
invariant-loop-rect l = list_any (λ (r : ClipRect). is_some (pixel_in (in_rect r) l.x l.y)) (drop l.rect-index l.rects) ≡ list_any (λ (r : ClipRect). is_some (pixel_in (in_rect r) l.x l.y)) l.rects
