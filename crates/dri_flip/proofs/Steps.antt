-- What is done in one rectangle more.
use Rattle.std.proofs.Common.{◌≡◌, ℕ, ◌+◌, ◌<◌, List, length, get_or, take, if◌then◌else◌, Option, pos, ◌-ℤ◌, ◌∙◌}
use Rattle.std.specs.Prelude.{AllPairs}
use Rattle.std.specs.List.{sum_by}
use Rattle.std.proofs.lemmas.List.Sums.{sum_by_more}
use Rattle.dri_base.specs.declared.colour.Rgb.{Rgb}
use Rattle.dri_base.specs.declared.colour.Pixel.{Pixel}
use Rattle.dri_base.specs.declared.shape.Point.{Point}
use Rattle.dri_base.specs.declared.shape.Triangle.{Triangle}
use Rattle.dri_base.specs.Fragments.{Rules, fragment}
use Rattle.dri_base.specs.Planes.{plane, in_rect}
use Rattle.dri_base.specs.Texels.{Image}
use Rattle.dri_base.proofs.PlaneLists.{plane_same}
use Rattle.dri_base.specs.Rectangles.{AreApart, in_rects}
use Rattle.dri_card.specs.Drawing.{cleared}
use Rattle.dri_plane.specs.Alike.{pairs_same}
use Rattle.dri_plane.specs.Grids.{Becomes, ClipRect, Grid}
use Rattle.dri_plane.specs.Runs.{HoldPairs}
use Rattle.dri_walk.specs.Clips.{covered_places}
use Rattle.dri_walk.specs.Drawings.{after_drawing}
use Rattle.dri_flip.specs.Calls.{cleared_in, drawn_in, swapped_in}
use Rattle.dri_flip.proofs.Rects.{either, in_more, next_apart, one_of}

-- one rectangle more is cleared
pub cleared_next : (back : Grid Rgb) (depth : Grid ℕ) (rects : List ClipRect) (i : ℕ) (d : ClipRect) (colour : Rgb) (z : ℕ) (f : ℕ → ℕ → Pixel) → i < length rects
    → HoldPairs back depth (cleared (get_or rects i d) colour z (cleared_in (take i rects) colour z f)) → HoldPairs back depth (cleared_in (take (i + 1) rects) colour z f)
cleared_next back depth rects i d colour z f within = pairs_same back depth _ _ (λ x y. rw (in_more rects i d x y within) (either (in_rects (take i rects) x y) (in_rect (get_or rects i d) x y) (record { colour = colour; depth = z }) (f x y)))

-- and one more drawn in
pub drawn_next : (back : Grid Rgb) (depth : Grid ℕ) (rects : List ClipRect) (i : ℕ) (d : ClipRect) (origin : Point) (rules : Rules) (image : Option Image) (t : Triangle) (f : ℕ → ℕ → Pixel) → i < length rects → AllPairs AreApart rects
    → HoldPairs back depth (after_drawing (λ p. p) rules image t (get_or rects i d) origin (drawn_in (take i rects) origin rules image t f)) → HoldPairs back depth (drawn_in (take (i + 1) rects) origin rules image t f)
drawn_next back depth rects i d origin rules image t f within apart = pairs_same back depth _ _ (λ x y. rw (in_more rects i d x y within)
    (one_of (in_rects (take i rects) x y) (in_rect (get_or rects i d) x y) (fragment rules image t (pos x -ℤ origin.x) (pos y -ℤ origin.y)) (f x y) (next_apart rects i d x y within apart)))

-- and one more copied
pub swapped_next : (old new : Grid Rgb) (rects : List ClipRect) (i : ℕ) (d : ClipRect) (f : ℕ → ℕ → Pixel) (shown : ℕ → ℕ → Rgb) → i < length rects → new.width ≡ old.width → new.height ≡ old.height
    → Becomes old new (λ g x y. if in_rect (get_or rects i d) x y then (f x y).colour else g x y) → old.pixels ≡ plane old.width old.height (swapped_in (take i rects) f shown) → new.pixels ≡ plane new.width new.height (swapped_in (take (i + 1) rects) f shown)
swapped_next old new rects i d f shown within wide high becomes holds = rw (wide, high) (becomes (swapped_in (take i rects) f shown) holds ∙ plane_same old.width old.height _ _ (λ x y lx ly.
    rw (in_more rects i d x y within) (either (in_rects (take i rects) x y) (in_rect (get_or rects i d) x y) (f x y).colour (shown x y))))

-- the places that a triangle covers in one more
pub covered_more : (rects : List ClipRect) (i : ℕ) (d : ClipRect) (t : Triangle) (origin : Point) → i < length rects
    → sum_by (λ r. covered_places t r origin) (take (i + 1) rects) ≡ sum_by (λ r. covered_places t r origin) (take i rects) + covered_places t (get_or rects i d) origin
covered_more rects i d t origin within = sum_by_more (λ r. covered_places t r origin) rects i d within
