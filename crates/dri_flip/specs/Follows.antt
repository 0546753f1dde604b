-- A card that follows a replay: what each deed makes of it, and what is counted.
use Rattle.std.specs.Prelude.{◌≡◌, ℕ, Bool, false, ◌||◌, List, length, nat_lt, is_some, All, AllPairs, Result, Ok, Err}
use Rattle.dri_base.specs.declared.colour.Pixel.{Pixel}
use Rattle.dri_base.specs.declared.colour.Rgb.{Rgb}
use Rattle.dri_base.specs.declared.journal.Entry.{Entry}
use Rattle.dri_base.specs.declared.scene.Scene.{Scene}
use Rattle.dri_base.specs.declared.shape.ClipRect.{ClipRect}
use Rattle.dri_base.specs.Rectangles.{AreApart, in_rects}
use Rattle.dri_clips.specs.declared.touched.Touched.{Touched}
use Rattle.dri_core.specs.Worlds.{World}
use Rattle.dri_flip.specs.Meanings.{HaveSides, Holds, KeepSides, Meaning, Shows}
use Rattle.dri_flip.specs.Owings.{Owing, flipped_where, owing, paid_where}
use Rattle.dri_flip.specs.Places.{has_all, has_some}
use Rattle.dri_flip.specs.declared.counted.CountedCard.{CountedCard}
use Rattle.dri_journal.specs.Replays.{MayTake, ReplayState, Took, world_of}
use Rattle.dri_journal.specs.declared.deed.Deed.{Deed}
use Rattle.dri_journal.specs.declared.deed.Deed.TheVariants as Deed_is
use Rattle.dri_journal.specs.declared.refusal.StepFault.{StepFault}
use Rattle.dri_journal.specs.declared.refusal.StepFault.TheVariants as faults
use Rattle.dri_plane.specs.Grids.{IsInside}
use Rattle.dri_replay.specs.Makings.{back_made, clips_now, front_made}

-- what the card owes, and what was counted
abbrev pub counted : CountedCard → Owing
counted c = record { owed = c.card.owed; flips = c.flips; copies = c.copies }

-- the card's planes have the same sides
abbrev pub IsScreen : Meaning → Type 0
IsScreen v = HaveSides v v.front.width v.front.height

-- the card has a world's front and back
pub record Follows (s : Scene) (w : World) (v : Meaning) : Type 0 where
  pub sides : HaveSides v s.width s.height
  pub shown : Shows v w.front
  pub held : Holds v w.back

-- the card follows the replay's entries, and what is counted is what they count
pub record IsAfter (v : ReplayState) (c : CountedCard) : Type 0 where
  pub follows : Follows v.scene (world_of v) c.card
  pub owes : counted c ≡ owing v.scene v.entries

-- rectangles of a screen, none of which share a pixel, with just the places of a set
pub record AreRectsOf (width height : ℕ) (places : ℕ → ℕ → Bool) (rects : List ClipRect) : Type 0 where
  pub inside : All (λ r. IsInside r width height) rects
  pub apart : AllPairs AreApart rects
  pub has : (x y : ℕ) → in_rects rects x y ≡ places x y

-- something is carried or painted
abbrev pub has_change : Touched → Bool
has_change touched = is_some touched.carry || nat_lt 0 (length touched.paints)

-- the deed touches
abbrev pub touches_made : ReplayState → ℕ → Deed → Bool
touches_made v c Deed_is.Nothing = false
touches_made v c (Deed_is.Touched touched) = has_change touched
touches_made v c deed = has_some v.scene.width v.scene.height (clips_now v c)

-- the deed clears the whole screen
abbrev pub clears_made : ReplayState → ℕ → Deed → Bool
clears_made v c (Deed_is.Clear colour depth) = has_all v.scene.width v.scene.height (clips_now v c)
clears_made v c deed = false

-- the deed swaps the whole screen
abbrev pub swaps_made : ReplayState → ℕ → Deed → Bool
swaps_made v c Deed_is.Swap = has_all v.scene.width v.scene.height (clips_now v c)
swaps_made v c deed = false

-- what is owed and counted after it
abbrev pub owing_made : ReplayState → ℕ → Deed → Owing → Owing
owing_made v c deed o = flipped_where (swaps_made v c deed) (paid_where (touches_made v c deed) (clears_made v c deed) o)

-- a deed of client c was made on the card, and counted
pub record IsMade (v : ReplayState) (c : ℕ) (deed : Deed) (old new : CountedCard) : Type 0 where
  pub sides : KeepSides old.card new.card
  pub held : (f : ℕ → ℕ → Pixel) → Holds old.card f → Holds new.card (back_made v c deed f)
  pub shown : (f : ℕ → ℕ → Pixel) (shown : ℕ → ℕ → Rgb) → Holds old.card f → Shows old.card shown → Shows new.card (front_made v c deed f shown)
  pub owes : counted new ≡ owing_made v c deed (counted old)

-- a legal entry was taken, and the card follows; another is refused
abbrev pub IsFollowing : {A : Type 0} → ReplayState → ReplayState → Entry → CountedCard → Result A StepFault → Type 0
IsFollowing old new e card (Ok x) = MayTake old e × Took old new e × IsAfter new card
IsFollowing old new e card (Err (faults.Refused refusal)) = MayTake old e → ⊥
IsFollowing old new e card (Err faults.OutOfMemory) = Unit {0}
