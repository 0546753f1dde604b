-- What each kind of step tells its caller: of the step, the seat before, the number found and the seat after.
use Rattle.std.specs.Prelude.{◌≡◌, ◌≢◌, ℕ, ◌-◌, ◌<◌, [], ◌∷◌, List, length, Option, Some}
use Rattle.atomic_table.specs.Table.{Me, Step}
use Rattle.dri_hwlock.specs.declared.view.View.{View}
use Rattle.dri_hwlock.specs.declared.view.Stage.TheVariants.{Idle, LightFailed, LeftLightly, Holding}
use Rattle.dri_hwlock.specs.Words.{IsWord, IsContended, IsUncontended}
use Rattle.dri_hwlock.specs.Entries.{StartsWith, mine}
use Rattle.dri_hwlock.specs.Views.{with_look, in_stage, with_value_out, with_value_home}

module _ {G B E : Type 0} where
  -- a load of the lock word is a look, and changes nothing else
  abbrev pub load_tells : Step (Option G) → Me (Option G) (View B E) → ℕ → Me (Option G) (View B E) → Type 0
  load_tells st me found new = IsWord found × (new ≡ (with_look me.0 found, me.1))

  -- The light exchange, of a context for its held word. Where it finds the context it takes the value, with just the entries that
  -- the seat had seen and the context as closer
  abbrev pub light_tells : (G → B) → (G → List E) → (G → ℕ) → Step (Option G) → Me (Option G) (View B E) → ℕ → Me (Option G) (View B E) → Type 0
  light_tells base_of entries_of closer_of st me found new = IsWord found
      × (found ≡ st.first → (g : G) × (new ≡ (in_stage (with_look me.0 found) (Holding st.first), (0, Some g) ∷ me.1)) × (Some (base_of g) ≡ me.0.base) × (entries_of g ≡ me.0.seen) × (closer_of g ≡ st.first))
      × (found ≢ st.first → new ≡ (in_stage (with_look me.0 found) LightFailed, me.1))

  -- The take exchange, of the word that was loaded for a held word. Where it finds the loaded word it takes the value, whose
  -- entries begin with those that the seat had seen and have no others of its context; a word other than 0 is the value's closer,
  -- and after a failed light exchange it isn't the seat's context
  abbrev pub take_tells : (G → B) → (G → List E) → (E → ℕ) → (G → ℕ) → Step (Option G) → Me (Option G) (View B E) → ℕ → Me (Option G) (View B E) → Type 0
  take_tells base_of entries_of context_of closer_of st me found new = IsWord found
      × (found ≡ st.first → (g : G) × (new ≡ (with_value_out me.0 found (st.second - 2147483648) (entries_of g), (0, Some g) ∷ me.1)) × (Some (base_of g) ≡ me.0.base)
      × StartsWith (entries_of g) me.0.seen × (mine context_of me.0.context (entries_of g) ≡ mine context_of me.0.context me.0.seen) × (0 < found → closer_of g ≡ found) × (me.0.stage ≡ LightFailed → 1 < found → found ≢ me.0.context))
      × (found ≢ st.first → new ≡ (with_look me.0 found, me.1))

  -- the mark exchange, of the held word that was loaded for the same with bit 30: where it is made, the last word is the one that
  -- it left
  abbrev pub mark_tells : Step (Option G) → Me (Option G) (View B E) → ℕ → Me (Option G) (View B E) → Type 0
  mark_tells st me found new = IsWord found × (found ≡ st.first → new ≡ (with_look me.0 st.second, me.1)) × (found ≢ st.first → new ≡ (with_look me.0 found, me.1))

  -- The load of the number of entries puts the value home exactly where it finds the number of the value's own: the hold has then
  -- added nothing. It isn't a look
  abbrev pub count_load_tells : (G → List E) → (G → ℕ) → Step (Option G) → Me (Option G) (View B E) → ℕ → Me (Option G) (View B E) → Type 0
  count_load_tells entries_of closer_of st me found new = (name : ℕ) (g : G) → me.0.stage ≡ Holding name → me.1 ≡ (0, Some g) ∷ []
      → (found ≡ length (entries_of g) → new ≡ (with_value_home me.0 name (closer_of g) (entries_of g), [])) × (found ≢ length (entries_of g) → new ≡ me)

  -- the swap of the number of entries puts the value home, and the seat has seen its entries. It isn't a look
  abbrev pub count_tells : (G → List E) → (G → ℕ) → Step (Option G) → Me (Option G) (View B E) → ℕ → Me (Option G) (View B E) → Type 0
  count_tells entries_of closer_of st me found new = (name : ℕ) (g : G) → me.0.stage ≡ Holding name → me.1 ≡ (0, Some g) ∷ [] → new ≡ (with_value_home me.0 name (closer_of g) (entries_of g), [])

  -- the light leave, of the held word for its context: it fails exactly where it finds bit 30, and the hold goes on
  abbrev pub light_leave_tells : Step (Option G) → Me (Option G) (View B E) → ℕ → Me (Option G) (View B E) → Type 0
  light_leave_tells st me found new = IsWord found × (found ≡ st.first → (new ≡ (in_stage (with_look me.0 found) LeftLightly, me.1)) × IsUncontended found) × (found ≢ st.first → (new ≡ (with_look me.0 found, me.1)) × IsContended found)

  -- the swap that ends a hold in any case: where the seat knew bit 30 to be set, it finds it set
  abbrev pub leave_tells : Step (Option G) → Me (Option G) (View B E) → ℕ → Me (Option G) (View B E) → Type 0
  leave_tells st me found new = IsWord found × (new ≡ (in_stage (with_look me.0 found) Idle, me.1)) × (IsContended me.0.last_word → IsContended found)

  -- the load of a seat that is never there, which tells what is never so
  abbrev pub never_tells : Step (Option G) → Me (Option G) (View B E) → ℕ → Me (Option G) (View B E) → Type 0
  never_tells st me found new = ◌≡◌ {A = ℕ} 0 1
