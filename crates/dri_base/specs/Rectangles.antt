-- Rectangles of places: what lies in one of them, and which of them share none.
use Rattle.std.specs.Prelude.{Bool, List, false, ℕ, ◌&&◌, ◌≡◌}
use Rattle.std.specs.List.{list_any}
use Rattle.dri_base.specs.Planes.{in_rect}
use Rattle.dri_base.specs.declared.shape.ClipRect.{ClipRect}

-- no place lies in both
abbrev pub AreApart : ClipRect → ClipRect → Type 0
AreApart r s = (x y : ℕ) → (in_rect r x y && in_rect s x y) ≡ false

-- one of the rectangles has the place
abbrev pub in_rects : List ClipRect → ℕ → ℕ → Bool
in_rects rects x y = list_any (λ r. in_rect r x y) rects
