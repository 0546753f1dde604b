-- No paint so far has the place.
use Rattle.std.proofs.Common.{◌≡◌, drop, is_some, pos}
use Rattle.std.specs.List.{list_any}
use Rattle.dri_base.specs.Planes.{in_rect}
use Rattle.dri_clips.specs.declared.touched.Paint.{Paint}
use Rattle.dri_model.specs.Stacks.{pixel_in}
use Rattle.dri_history.proofs.touching.is_painted.Given as goal

abbrev pub invariant-loop-paint : goal.invariant-loop-paint
invariant-loop-paint l = list_any (λ (p : Paint). is_some (pixel_in (in_rect p.rect) (pos l.x) (pos l.y))) (drop l.paint-index l.paints) ≡ list_any (λ (p : Paint). is_some (pixel_in (in_rect p.rect) (pos l.x) (pos l.y))) l.paints
