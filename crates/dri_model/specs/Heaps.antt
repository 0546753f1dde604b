-- Texture regions and their ages, as sets: which are in use, and the age of each.
use Rattle.std.specs.Prelude.{ℕ, suc, ◌+◌, ◌-◌, ◌*◌, Bool, ◌==◌, not, ◌||◌, ◌&&◌, nat_lt, nat_le, if◌then◌else◌, List, length, get_or, Option, Some, None}
use Rattle.dri_model.specs.Counting.{any_from, how_many, least}

-- neighbouring regions
pub record Run : Type 0 where
  pub first : ℕ
  pub count : ℕ

-- where a texture stands in texture memory: in the regions of a run, from a block of 64 bytes of its first region on
pub record Spot : Type 0 where
  pub run : Run
  pub block : ℕ

-- the regions: the global age, and which are in use with which age
pub record Heap : Type 0 where
  -- the global age
  pub global : ℕ
  -- by the region's number
  pub used : ℕ → Bool
  -- in use for small textures of one client
  pub shared : ℕ → Bool
  pub age : ℕ → ℕ

-- region k is in the run
abbrev pub in_run : Run → ℕ → Bool
in_run r k = nat_le r.first k && nat_lt k (r.first + r.count)

-- some region of the run has the property
abbrev pub any_in : Run → (ℕ → Bool) → Bool
any_in r p = any_from p r.first r.count

-- region j is the lowest in use of its age, so it stands for its age class
abbrev pub leads_class : Heap → ℕ → Bool
leads_class h j = h.used j && not (any_from (λ i. h.used i && (h.age i == h.age j)) 0 j)

-- how many age classes are older than region k, of n regions
abbrev pub older_classes : ℕ → Heap → ℕ → ℕ
older_classes n h k = how_many (λ j. leads_class h j && nat_lt (h.age j) (h.age k)) n

-- region k is in one of the m classes with the least ages
abbrev pub is_oldest : ℕ → Heap → ℕ → ℕ → Bool
is_oldest n h m k = h.used k && nat_lt (older_classes n h k) m

-- region k is free, or in the m oldest classes
abbrev pub is_room : ℕ → Heap → ℕ → ℕ → Bool
is_room n h m k = not (h.used k) || is_oldest n h m k

-- the count neighbours from first on have room
abbrev pub fits : ℕ → Heap → ℕ → ℕ → ℕ → Bool
fits n h m count first = nat_le (first + count) n && not (any_from (λ k. not (is_room n h m k)) first count)

-- the lowest place with room, or n
abbrev pub lowest_place : ℕ → Heap → ℕ → ℕ → ℕ
lowest_place n h count m = least (fits n h m count) n

-- the least number of classes that have to go
abbrev pub classes_for : ℕ → Heap → ℕ → ℕ
classes_for n h count = least (λ m. nat_lt (lowest_place n h count m) n) n

-- the run for so many regions begins there: with the least number of classes, the lowest place
abbrev pub is_place_for : ℕ → Heap → ℕ → ℕ → Bool
is_place_for n h count first =
    (first == lowest_place n h count (classes_for n h count)) && fits n h (classes_for n h count) count first

-- the regions that an allocation of so many frees
abbrev pub freed_for : ℕ → Heap → ℕ → ℕ → Bool
freed_for n h count k = is_oldest n h (classes_for n h count) k

-- the global age once the freed regions have theirs: one more, where any class has to go
abbrev pub age_freed : ℕ → Heap → ℕ → ℕ
age_freed n h count = if classes_for n h count == 0 then h.global else suc h.global

-- the heap after the run is allocated, of n regions
abbrev pub allocated : ℕ → Heap → Run → Heap
allocated n h run = record {
  global = suc (age_freed n h run.count);
  used = λ k. in_run run k || (h.used k && not (freed_for n h run.count k));
  shared = λ k. h.shared k && not (in_run run k || freed_for n h run.count k);
  age = λ k. if in_run run k then suc (age_freed n h run.count) else (if freed_for n h run.count k then age_freed n h run.count else h.age k);
}

-- the heap after a use of the run
abbrev pub touched : Run → Heap → Heap
touched run h = record {
  global = suc h.global;
  used = h.used;
  shared = h.shared;
  age = λ k. if in_run run k then suc h.global else h.age k;
}

-- the heap with region i marked as shared, where it is so
abbrev pub marked : Bool → ℕ → Heap → Heap
marked is i h = record h { shared = λ k. (is && (k == i)) || h.shared k }

-- how region k is used: 0 free, 1 in use, 2 shared
abbrev pub use_of : Heap → ℕ → ℕ
use_of h k = if h.used k then (if h.shared k then 2 else 1) else 0

-- a placed texture with a region that has the property is lost
abbrev pub lose : (ℕ → Bool) → Option Spot → Option Spot
lose p None = None
lose p (Some spot) = if any_in spot.run p then None else Some spot

-- the region is newer than this age
abbrev pub is_newer : Heap → ℕ → ℕ → Bool
is_newer h local k = nat_lt local (h.age k)

-- where a spot begins in texture memory, with regions of so many bytes
abbrev pub base_of : ℕ → Spot → ℕ
base_of size spot = spot.run.first * size + 64 * spot.block

-- the memory after bytes are written from a base on
abbrev pub uploaded : (ℕ → ℕ) → ℕ → List ℕ → ℕ → ℕ
uploaded memory base bytes a = if nat_le base a && nat_lt a (base + length bytes) then get_or bytes (a - base) 0 else memory a

-- region j stands before region k in the list from the most to the least recently used: by falling age, then by rising number
abbrev pub stands_before : Heap → ℕ → ℕ → Bool
stands_before h j k = nat_lt (h.age k) (h.age j) || ((h.age j == h.age k) && nat_lt j k)
