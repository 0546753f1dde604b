-- The ends that were found on the way.
use Rattle.std.specs.Prelude.{◌≡◌, ◌≢◌, ◌<◌, ◌↔◌, ◌⊎◌, ℕ, Bool, true, List, [], ◌∷◌, ◌++◌, length, AllPairs, Contains, Some, slice_get}
use Rattle.dri_base.specs.declared.colour.Rgb.{Rgb}
use Rattle.dri_base.specs.declared.journal.Entry.{Entry}
use Rattle.dri_base.specs.declared.journal.Event.{Event}
use Rattle.dri_base.specs.declared.scene.Scene.{Scene}
use Rattle.dri_core.specs.CoreRuns.{IsRun}
use Rattle.dri_core.specs.Cores.{journal_of}
use Rattle.dri_explore.specs.Ends.{IsCut, IsShown, is_over, journals}
use Rattle.dri_explore.specs.declared.ends.Ends.{Ends}

-- a screen is picture number so many; one that wasn't there was put last
abbrev pub Places : List (List Rgb) → List (List Rgb) → List Rgb → ℕ → Type 0
Places old new pixels number =
    ((slice_get old number ≡ Some pixels) × (new ≡ old)) ⊎ ((Contains old pixels → ⊥) × (new ≡ old ++ pixels ∷ []) × (number ≡ length old))

-- a journal is there, or an end with it was put last
pub record Notes (s : Scene) (old new : Ends) (journal : List Entry) : Type 0 where
  pub ends : (Contains (journals old.ends) journal × (new.ends ≡ old.ends)) ⊎ ((Contains (journals old.ends) journal → ⊥) × (journals new.ends ≡ journals old.ends ++ journal ∷ []))
  pub shown : IsShown s new

-- a run of fewer events, with nothing left to do, ends with this journal
abbrev pub IsEndBelow : Scene → ℕ → List Entry → Type 0
IsEndBelow s made journal = (events : List Event) × IsRun s events × (length events < made) × (is_over s events ≡ true) × (journal_of events ≡ journal)

-- the ends of all runs of fewer events are listed, each once
pub record IsFound (s : Scene) (number : ℕ) (found : Ends) : Type 0 where
  pub listed : (journal : List Entry) → Contains (journals found.ends) journal ↔ IsEndBelow s number journal
  pub once : AllPairs ◌≢◌ (journals found.ends)
  pub shown : IsShown s found

-- whether some run of so many events has something left to do
abbrev pub TellsCut : Scene → ℕ → Bool → Type 0
TellsCut s made cut = (cut ≡ true) ↔ IsCut s made
