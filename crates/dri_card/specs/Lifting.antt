-- Lists of pixels that wait to be written.
use Rattle.std.specs.Prelude.{ℕ, ◌≡◌, ◌≤◌, ◌+◌, length}
use Rattle.dri_plane.specs.Moves.{Pixels}
use Rattle.dri_card.specs.declared.lifts.Lifts.{Lifts}

-- a list has room for so many pixels
abbrev pub HasRoom : {A : Type 0} → ℕ → Pixels A → Type 0
HasRoom room lifted = room ≤ lifted.spare + length lifted.pixels

-- each of the three lists has room for so many pixels
pub record HaveRoom {T : Type 0} (room : ℕ) (lifts : Lifts T) : Type 0 where
  pub front : HasRoom room lifts.front
  pub back : HasRoom room lifts.back
  pub depth : HasRoom room lifts.depth

-- each of the three lists holds so many pixels
pub record HaveLifted {T : Type 0} (number : ℕ) (lifts : Lifts T) : Type 0 where
  pub front : length lifts.front.pixels ≡ number
  pub back : length lifts.back.pixels ≡ number
  pub depth : length lifts.depth.pixels ≡ number
