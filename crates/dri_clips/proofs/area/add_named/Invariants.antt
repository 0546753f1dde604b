use Rattle.std.specs.Prelude.{ℤ, ◌≡◌, ◌≤◌, ◌+◌, ◌*◌, ◌&&◌, ◌||◌, length, take}
use Rattle.dri_rect.specs.Pixels.{has_pixel, inside}
use Rattle.dri_clips.specs.Areas.{has_named, named_in, names}
use Rattle.dri_clips.proofs.area.add_named.Given as goal

abbrev pub invariant-loop-at : goal.invariant-loop-at
invariant-loop-at g l = record {
  region : (x y : ℤ) → inside l.area x y ≡ (inside l.fn.area x y || (has_pixel l.screen x y && has_named (names l.cause) (take l.at l.stack) x y));
  steps : l.steps ≤ l.fn.steps + 2 * length (named_in (names l.cause) (take l.at l.stack));
}
