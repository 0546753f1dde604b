-- Sets of places of a screen.
use Rattle.std.specs.Prelude.{ℕ, Bool, not}
use Rattle.dri_model.specs.Counting.{all_below}

-- the set has each place of a screen with these sides
abbrev pub has_all : ℕ → ℕ → (ℕ → ℕ → Bool) → Bool
has_all width height places = all_below (λ x. all_below (λ y. places x y) height) width

-- the set has a place of a screen with these sides
abbrev pub has_some : ℕ → ℕ → (ℕ → ℕ → Bool) → Bool
has_some width height places = not (all_below (λ x. all_below (λ y. not (places x y)) height) width)
