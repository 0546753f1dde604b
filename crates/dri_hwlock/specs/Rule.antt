-- The rule of the table. Word 0 is the lock word, word 1 the number of entries, and slot 0 has the value.
use Rattle.std.specs.Prelude.{◌≡◌, ◌≢◌, ◌⊎◌, ℕ, ◌+◌, ◌<◌, ◌≤◌, List, [], ◌∷◌, length, Option, Some}
use mathlib.Core.Option.{none, some}
use mathlib.Core.Option as maybe
use lib.ListN.{get_elem?}
use Rattle.atomic_table.specs.Table.{State}
use Rattle.dri_hwlock.specs.declared.view.View.{View}
use Rattle.dri_hwlock.specs.declared.view.Stage.{Stage}
use Rattle.dri_hwlock.specs.declared.view.Stage.TheVariants.{Idle, LightFailed, LeftLightly, Holding, ValueHome, JoinedAway}
use Rattle.dri_hwlock.specs.Words.{word_of, IsContended}
use Rattle.dri_hwlock.specs.Entries.{StartsWith, StartsWithEach, mine}
use Rattle.dri_hwlock.specs.Views.{is_in_hold, joined_away_in, taken_in}

-- what the slot has: nothing while the value is out
abbrev pub slot_of : {G : Type 0} → maybe.Option G → maybe.Option (Option G)
slot_of none = none
slot_of (some g) = some (Some g)

-- The lock at one moment: all entries, what the word says, the seat that holds, and the value where it is home
pub record Moment (G E : Type 0) : Type 0 where
  pub entries : List E
  pub context : ℕ
  pub contended : ℕ
  pub held : ℕ
  pub holder : ℕ
  pub home : maybe.Option G

module _ {G B E : Type 0} (base_of : G → B) (entries_of : G → List E) (context_of : E → ℕ) (closer_of : G → ℕ) where
  -- What the view of each seat that was not joined away agrees with. Seat j has the context j + 1. All have one base. What each
  -- has seen is a beginning of all entries, so of any two lists one begins with the other. Each has seen all entries of its own
  -- context. The first knows the number of seats.
  pub record Agrees (b : B) (passes seats : ℕ) (entries : List E) (j : ℕ) (v : View B E) : Type 0 where
    pub same_base : v.base ≡ Some b
    pub same_context : v.context ≡ j + 1
    pub same_passes : v.passes ≡ passes
    pub begins : StartsWith entries v.seen
    pub own : mine context_of (j + 1) v.seen ≡ mine context_of (j + 1) entries
    pub others_begin : StartsWithEach entries v.others_seen
    pub counts_seats : j ≡ 0 → v.seats_made ≡ seats

  module _ (b : B) (passes seats : ℕ) (m : Moment G E) (j : ℕ) (v : View B E) where
    -- in a hold under this name: it is the one holder, it has seen all entries, and the word names it, or 1. Where its last word
    -- was contended, the word is
    abbrev pub IsHolder : ℕ → Type 0
    IsHolder name = Agrees b passes seats m.entries j v × (m.held ≡ 1) × (m.holder ≡ j) × (name ≡ m.context) × (v.seen ≡ m.entries) × (IsContended v.last_word → m.contended ≡ 1) × ((name ≡ j + 1) ⊎ (name ≡ 1))

    abbrev pub IsOutside : Type 0
    IsOutside = Agrees b passes seats m.entries j v × (m.held ≡ 1 → m.holder ≢ j)

    -- What a view agrees with, by its stage. A free word of 2 or more names a seat that has left lightly and has seen all entries
    abbrev pub Fits : Stage → Type 0
    Fits Idle = IsOutside × (m.held ≡ 0 → 1 < m.context → m.context ≢ j + 1)
    Fits LightFailed = IsOutside × (m.held ≡ 0 → 1 < m.context → m.context ≢ j + 1)
    Fits LeftLightly = IsOutside × (m.held ≡ 0 → 1 < m.context → m.context ≡ j + 1 → v.seen ≡ m.entries)
    Fits (Holding name) = IsHolder name × (m.home ≡ none)
    Fits (ValueHome name closer) = IsHolder name × ((g : G) × (m.home ≡ some g) × (closer_of g ≡ closer))
    Fits JoinedAway = Unit {0}

  -- The rule, where so many joins are half done
  pub record IsKeptBut (owed : ℕ) (b : B) (passes : ℕ) (s : State (Option G) (View B E)) : Type 0 where
    pub now : Moment G E
    -- the lock word, and the number of entries
    pub words : s.words ≡ word_of now.context now.contended now.held ∷ length now.entries ∷ []
    pub homes : s.homes ≡ slot_of now.home ∷ []
    -- bit 30 is set only with bit 31, and the context is at most the number of seats, which are at most 33
    pub bits : (now.held ≤ 1) × (now.contended ≤ now.held) × (now.context ≤ length s.views) × (length s.views ≤ passes) × (passes ≤ 33)
    pub seats : (j : ℕ) (v : View B E) → get_elem? s.views j ≡ some v → Fits b passes (length s.views) now j v v.stage
    -- a held word has its holder
    pub taken : now.held ≡ 1 → (v : View B E) × (get_elem? s.views now.holder ≡ some v) × (is_in_hold v.stage ≡ 1)
    -- while the word is free the value is home, and its closer is the context in the word, if that isn't 0
    pub free : now.held ≡ 0 → (g : G) × (now.home ≡ some g) × (0 < now.context → closer_of g ≡ now.context)
    -- a value that is home has the base and all entries
    pub home : (g : G) → now.home ≡ some g → (base_of g ≡ b) × (entries_of g ≡ now.entries)
    -- a context that has no seat has no entry
    pub unseated : (x : ℕ) → length s.views < x → mine context_of x now.entries ≡ []
    -- the seats that were joined away are those that others took in
    pub joined : joined_away_in s.views + owed ≡ taken_in s.views

  -- the rule
  abbrev pub IsKept : B → ℕ → State (Option G) (View B E) → Type 0
  IsKept = IsKeptBut 0
