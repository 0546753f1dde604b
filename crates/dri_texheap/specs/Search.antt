-- The search for a run, by an age below which regions in use may be freed.
use Rattle.std.specs.Prelude.{List, get_or, ◌≡◌, ◌<◌, ℕ, zero, suc, Bool, true, false, ◌&&◌, ◌||◌, not, nat_lt, nat_le, if◌then◌else◌, Option, Some, None}
use Rattle.dri_model.specs.Counting.{any_from, how_many}
use Rattle.dri_model.specs.Heaps.{Heap, leads_class, classes_for, is_place_for, lowest_place}

-- region k is free, or in use with an age below the bound
abbrev pub is_available : Heap → ℕ → ℕ → Bool
is_available h bound k = not (h.used k) || nat_lt (h.age k) bound

-- the count neighbours from first on are available
abbrev pub are_available : Heap → ℕ → ℕ → ℕ → Bool
are_available h bound first count = not (any_from (λ k. not (is_available h bound k)) first count)

-- how many age classes have an age below the bound
abbrev pub classes_below : ℕ → Heap → ℕ → ℕ
classes_below n h bound = how_many (λ j. leads_class h j && nat_lt (h.age j) bound) n

-- region k of these is in use with an age below the bound
abbrev pub is_old : List Bool → List ℕ → ℕ → ℕ → Bool
is_old used ages bound k = get_or used k false && nat_lt (get_or ages k 0) bound

-- the lesser of an age that may be there and an age
abbrev pub lesser_age : Option ℕ → ℕ → Option ℕ
lesser_age None age = Some age
lesser_age (Some best) age = if nat_lt age best then Some age else Some best

-- the least age from the bound on among the regions below n that are in use
abbrev pub least_age : Heap → ℕ → ℕ → Option ℕ
least_age h bound zero = None
least_age h bound (suc n) = if h.used n && nat_le bound (h.age n) then lesser_age (least_age h bound n) (h.age n) else least_age h bound n

-- fewer classes than are below the bound don't make room for so many neighbours
pub record IsSought (n : ℕ) (h : Heap) (count bound : ℕ) : Type 0 where
  pub short : (m : ℕ) → m < classes_below n h bound → nat_lt (lowest_place n h count m) n ≡ false
  pub positive : nat_lt 0 (classes_below n h bound) ≡ nat_lt 0 bound

-- the run for so many begins at first, once the classes below the bound have gone
pub record IsChosen (n : ℕ) (h : Heap) (count bound first : ℕ) : Type 0 where
  pub classes : classes_for n h count ≡ classes_below n h bound
  pub positive : nat_lt 0 (classes_below n h bound) ≡ nat_lt 0 bound
  pub place : is_place_for n h count first ≡ true

-- free regions and those below the bound hold count neighbours nowhere before the place
abbrev pub NowhereBefore : Heap → ℕ → ℕ → ℕ → Type 0
NowhereBefore h bound count place = (first : ℕ) → first < place → are_available h bound first count ≡ false
