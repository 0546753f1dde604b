-- Surfaces of pairs, a colour and a depth for each place, and what is painted on them.
use Rattle.std.specs.Prelude.{ℕ, ℤ, pos, ◌-ℤ◌, Bool, if◌then◌else◌}
use Rattle.dri_base.specs.declared.colour.Pixel.{Pixel}
use Rattle.dri_base.specs.declared.shape.Point.{Point}
pub use Rattle.dri_plane.specs.Runs.{in_row, left_by, run_painted}

-- where the old surface holds the pairs of f, the new one holds those that the change makes of f
abbrev pub PairsBecome : {S : Type 0} → (S → (ℕ → ℕ → Pixel) → Type 0) → S → S → ((ℕ → ℕ → Pixel) → ℕ → ℕ → Pixel) → Type 0
PairsBecome holds old new change = (f : ℕ → ℕ → Pixel) → holds old f → holds new (change f)

-- the pairs after a drawing at the places of a set; the window's pixel is the screen's less the origin
abbrev pub drawn_at : (ℕ → ℕ → Bool) → Point → (ℤ → ℤ → Pixel → Pixel) → (ℕ → ℕ → Pixel) → ℕ → ℕ → Pixel
drawn_at places origin drawing f a b = if places a b then drawing (pos a -ℤ origin.x) (pos b -ℤ origin.y) (f a b) else f a b
