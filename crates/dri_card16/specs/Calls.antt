-- What the card draws. Its other calls make of its pixels what those of the copying card make of them, with kept colours.
use Rattle.std.specs.Prelude.{List, Option, fold, if◌then◌else◌, pos, sum_by, ◌-ℤ◌, ℕ, ℤ}
use Rattle.dri_base.specs.Fragments.{Rules}
use Rattle.dri_base.specs.Planes.{in_rect}
use Rattle.dri_base.specs.Texels.{Image}
use Rattle.dri_base.specs.declared.colour.Pixel.{Pixel}
use Rattle.dri_base.specs.declared.shape.ClipRect.{ClipRect}
use Rattle.dri_base.specs.declared.shape.Point.{Point}
use Rattle.dri_base.specs.declared.shape.Triangle.{Triangle}
use Rattle.dri_card.specs.Contents.{Contents, memory_of}
use Rattle.dri_card16.specs.Lines.{is_line, line_places}
use Rattle.dri_card16.specs.Sixteen.{fragment16}
use Rattle.dri_model.specs.Words.{card_image, rules_in}
use Rattle.dri_walk.specs.Clips.{covered_places}

-- the pairs after a triangle, or the line that it is, drawn in a clip of the screen; the window's pixel is the screen's less the origin
abbrev pub after_drawing16 : Rules → Option Image → Triangle → ClipRect → Point → (ℕ → ℕ → Pixel) → ℕ → ℕ → Pixel
after_drawing16 r image t clip origin f x y = if in_rect clip x y then fragment16 r image t (pos x -ℤ origin.x) (pos y -ℤ origin.y) (f x y) else f x y

-- the pair that one leaves at the window's pixel (x, y), by the card's registers and texture memory
abbrev pub drawn16 : Contents → Triangle → ℤ → ℤ → Pixel → Pixel
drawn16 v t x y under = fragment16 (rules_in v.registers) (card_image (memory_of v) v.registers.bound) t x y under

-- the pairs after a triangle, drawn in the clip of the card
abbrev pub after_triangle16 : Contents → Point → Triangle → (ℕ → ℕ → Pixel) → ℕ → ℕ → Pixel
after_triangle16 v origin t f x y = if in_rect v.clip x y then drawn16 v t (pos x -ℤ origin.x) (pos y -ℤ origin.y) (f x y) else f x y

-- the pairs after triangles, drawn so one after another
abbrev pub after_triangles16 : Contents → Point → List Triangle → (ℕ → ℕ → Pixel) → ℕ → ℕ → Pixel
after_triangles16 v origin ts f x y = if in_rect v.clip x y then fold (λ under t. drawn16 v t (pos x -ℤ origin.x) (pos y -ℤ origin.y) under) (f x y) ts else f x y

-- how many places of a clip a triangle, or the line that it is, covers
abbrev pub places16 : Triangle → ClipRect → Point → ℕ
places16 t clip origin = if is_line t then line_places t clip origin else covered_places t clip origin

-- how many of the card's clip the triangles cover, each triangle for itself
abbrev pub covered16 : Contents → Point → List Triangle → ℕ
covered16 v origin ts = sum_by (λ t. places16 t v.clip origin) ts
