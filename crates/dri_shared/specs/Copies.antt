-- A client's copy of what its window shows, as rectangles and a corner, and what it is told.
use Rattle.std.specs.Prelude.{◌≡◌, ℕ, ℤ, List, Bool}
use Rattle.dri_base.specs.Scenes.{window_of}
use Rattle.dri_base.specs.declared.scene.Scene.{Scene}
use Rattle.dri_base.specs.declared.shape.Point.{Point}
use Rattle.dri_base.specs.declared.shape.Rect.{Rect}
use Rattle.dri_core.specs.Worlds.{World, clips_in}
use Rattle.dri_draw.specs.Drawing.{has_place}
use Rattle.dri_model.specs.Stacks.{origin}
use Rattle.dri_rect.specs.Pixels.{inside}
use Rattle.dri_shared.specs.declared.answers.Told.{Told}

-- the rectangles have just the pixels of the set
abbrev pub IsCopyOf : List Rect → (ℕ → ℕ → Bool) → Type 0
IsCopyOf clips set = (x y : ℤ) → inside clips x y ≡ has_place set x y

-- a point as a pair
abbrev pub corner : Point → ℤ × ℤ
corner p = (p.x, p.y)

-- client c is told its window's stamp, origin and clips
pub record IsToldOf (s : Scene) (w : World) (c : ℕ) (told : Told) : Type 0 where
  pub stamp : told.stamp ≡ w.stamps (window_of s c)
  pub place : corner told.origin ≡ origin w.stack (window_of s c)
  pub copy : IsCopyOf told.clips (clips_in s w c)
