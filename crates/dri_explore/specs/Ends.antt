-- What a scene's runs of at most so many events can end with, whatever turns and kills they come by.
use Rattle.std.specs.Prelude.{◌≡◌, ◌≢◌, ◌<◌, ◌≤◌, ◌↔◌, ◌⊎◌, ℕ, suc, Bool, true, false, List, [], ◌∷◌, length, map, All, AllPairs, Contains, Some, slice_get, Result, Ok, Err}
use Rattle.dri_base.specs.Planes.{plane}
use Rattle.dri_base.specs.declared.colour.Rgb.{Rgb}
use Rattle.dri_base.specs.declared.journal.Entry.{Entry}
use Rattle.dri_base.specs.declared.journal.Event.{Event}
use Rattle.dri_base.specs.declared.scene.Scene.{Scene}
use Rattle.dri_core.specs.CoreRuns.{IsRun, after_events}
use Rattle.dri_core.specs.Cores.{journal_of, opening_core}
use Rattle.dri_core.specs.Runs.{after}
use Rattle.dri_core.specs.Turns.{all_pass, round}
use Rattle.dri_explore.specs.declared.ends.End.{End}
use Rattle.dri_explore.specs.declared.ends.Ends.{Ends}
use Rattle.dri_explore.specs.declared.fault.ExploreFault.{ExploreFault}
use Rattle.dri_explore.specs.declared.fault.ExploreFault.TheVariants as faults

-- after these events a turn of each actor would be passed over
abbrev pub is_over : Scene → List Event → Bool
is_over s events = all_pass s (after_events s (opening_core s) events) (round s)

-- a run of at most so many events, with nothing left to do
pub record IsComplete (s : Scene) (most : ℕ) (events : List Event) : Type 0 where
  pub run : IsRun s events
  pub short : length events ≤ most
  pub over : is_over s events ≡ true

-- such a run ends with this journal; the journal tells the world, and so the screen
abbrev pub IsEnd : Scene → ℕ → List Entry → Type 0
IsEnd s most journal = (events : List Event) × IsComplete s most events × (journal_of events ≡ journal)

-- some run of so many events has something left to do
abbrev pub IsCut : Scene → ℕ → Type 0
IsCut s most = (events : List Event) × IsRun s events × (length events ≡ most) × (is_over s events ≡ false)

-- what the screen shows after a journal, row by row
abbrev pub screen : Scene → List Entry → List Rgb
screen s journal = plane s.width s.height (after s journal).front

-- the journals of the ends
abbrev pub journals : List End → List (List Entry)
journals ends = map (λ e. e.journal) ends

-- the numbers of their pictures
abbrev pub numbers : List End → List ℕ
numbers ends = map (λ e. e.picture) ends

-- each number is one of the first so many, or the next one; in the end there are this many
abbrev pub InOrder : ℕ → List ℕ → ℕ → Type 0
InOrder seen [] all = seen ≡ all
InOrder seen (n ∷ ns) all = ((n < seen) × InOrder seen ns all) ⊎ ((n ≡ seen) × InOrder (suc seen) ns all)

-- each end has the picture of its screen; no picture is there twice; they are in the order in which the ends have them
pub record IsShown (s : Scene) (found : Ends) : Type 0 where
  pub shown : All (λ e. slice_get found.pictures e.picture ≡ Some (screen s e.journal)) found.ends
  pub apart : AllPairs ◌≢◌ found.pictures
  pub ordered : InOrder 0 (numbers found.ends) (length found.pictures)

-- all ends are listed, each once, with their pictures, and whether a run was cut is told
pub record AreEnds (s : Scene) (most : ℕ) (found : Ends) : Type 0 where
  pub listed : (journal : List Entry) → Contains (journals found.ends) journal ↔ IsEnd s most journal
  pub once : AllPairs ◌≢◌ (journals found.ends)
  pub pictures : IsShown s found
  pub cut : (found.cut ≡ true) ↔ IsCut s most

-- two runs leave the same: one journal and one core
abbrev pub LeaveSame : Scene → List Event → List Event → Type 0
LeaveSame s a b = (journal_of a ≡ journal_of b) × (after_events s (opening_core s) a ≡ after_events s (opening_core s) b)

-- there are more than so many runs of one number of events, no two of which leave the same
pub record HasMore (s : Scene) (most limit : ℕ) : Type 0 where
  pub number : ℕ
  pub within : number ≤ most
  pub runs : List (List Event)
  pub more : limit < length runs
  pub each : All (λ events. IsRun s events × (length events ≡ number)) runs
  pub apart : AllPairs (λ a b. LeaveSame s a b → ⊥) runs

-- what is answered: the ends; or that there are too many runs to keep; or that memory was wanting
abbrev pub Explores : Result Ends ExploreFault → Scene → ℕ → ℕ → Type 0
Explores (Ok found) s most limit = AreEnds s most found
Explores (Err faults.TooMany) s most limit = HasMore s most limit
Explores (Err faults.OutOfMemory) s most limit = Unit {0}
