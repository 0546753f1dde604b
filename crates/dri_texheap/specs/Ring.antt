-- The list of the regions from the most to the least recently used, as a ring of entries that begins and ends at its head.
use Rattle.std.specs.Prelude.{◌≡◌, ◌<◌, ◌≤◌, true, false, Option, Some, None, ℕ, zero, suc, List, map, Bool, ◌==◌, ◌||◌, ◌&&◌, not, nat_lt, if◌then◌else◌}
use Rattle.std.specs.List.{range_with_len}
use Rattle.dri_base.specs.declared.texture.TexRegion.{TexRegion}
use Rattle.dri_model.specs.Counting.{any_from, least}
use Rattle.dri_model.specs.Heaps.{Heap, stands_before, use_of}
use Rattle.dri_texheap.specs.declared.links.Direction.{Direction}
use Rattle.dri_texheap.specs.declared.links.Direction.TheVariants.{Onward, Backward}

-- of the numbers below n with the property, the one that no other of them stands before; n where there is none
abbrev pub foremost : ℕ → (ℕ → ℕ → Bool) → (ℕ → Bool) → ℕ
foremost n before has = least (λ j. has j && not (any_from (λ k. has k && before k j) 0 n)) n

-- the entry after entry i, where entry n is the head: the first region that stands behind it, or the head
abbrev pub next_of : ℕ → Heap → ℕ → ℕ
next_of n h i = foremost n (stands_before h) (λ j. (i == n) || stands_before h i j)

-- the entry before entry i, where entry n is the head: the last region that stands before it, or the head
abbrev pub prev_of : ℕ → Heap → ℕ → ℕ
prev_of n h i = foremost n (λ j k. stands_before h k j) (λ j. (i == n) || stands_before h j i)

-- entry i of the ring of n regions: how it is used, and its age; the head is never in use, and has age 0
abbrev pub entry : ℕ → Heap → ℕ → TexRegion
entry n h i = record {
  next = next_of n h i;
  prev = prev_of n h i;
  in_use = if nat_lt i n then use_of h i else 0;
  age = if nat_lt i n then h.age i else 0;
}

-- the entries of the ring by their numbers: the n regions and the head
abbrev pub entries : ℕ → Heap → List TexRegion
entries n h = map (entry n h) (range_with_len 0 (suc n))

-- the entry that is met after so many steps by next, from the head on, which is entry n
abbrev pub met : ℕ → (ℕ → TexRegion) → ℕ → ℕ
met n at zero = n
met n at (suc k) = (at (met n at k)).next

-- the entries up to the head, entry n, form one list: next and prev undo each other, and from the head on each is met once before the head comes again
pub record IsOneList (n : ℕ) (at : ℕ → TexRegion) : Type 0 where
  pub back : (i : ℕ) → i ≤ n → (at (at i).next).prev ≡ i
  pub onward : (i : ℕ) → i ≤ n → (at (at i).prev).next ≡ i
  pub each : (i : ℕ) → i ≤ n → (k : ℕ) × (k ≤ n) × (met n at k ≡ i)
  pub once : (j k : ℕ) → j ≤ n → k ≤ n → met n at j ≡ met n at k → j ≡ k
  pub round : met n at (suc n) ≡ n

-- region j stands before region k, seen from the ring's head in that direction
abbrev pub goes : Heap → Direction → ℕ → ℕ → Bool
goes h Onward j k = stands_before h j k
goes h Backward j k = stands_before h k j

-- region j stands behind entry i, where all stand behind the head
abbrev pub follows : ℕ → Heap → Direction → ℕ → ℕ → Bool
follows n h direction i j = (i == n) || goes h direction i j

-- of the regions below m, the foremost that stands behind entry i, where there is one
abbrev pub Nearest : ℕ → Heap → Direction → ℕ → ℕ → Option ℕ → Type 0
Nearest n h direction i m None = (j : ℕ) → j < m → follows n h direction i j ≡ false
Nearest n h direction i m (Some j) = (j < m) × (follows n h direction i j ≡ true) × ((k : ℕ) → k < m → follows n h direction i k ≡ true → goes h direction k j ≡ false)
