-- What contracts see of the texture regions.
use Rattle.std.specs.Prelude.{◌≡◌, ◌<◌, ◌≤◌, ℕ, List, get_or, Bool, true, false, ◌+◌, ◌&&◌, nat_le, nat_lt}
use Rattle.dri_base.specs.declared.scene.Scene.{Scene}
use Rattle.dri_model.specs.Heaps.{Heap, Run, in_run}

-- the number of regions, the global age, and by a region's number whether it is in use, whether it is marked as shared, and its age
pub record RegionState : Type 0 where
  pub count : ℕ
  pub global : ℕ
  pub used : List Bool
  pub shared : List Bool
  pub ages : List ℕ

-- the heap with this global age, these uses and these ages, in which nothing is marked
abbrev pub heap_from : ℕ → List Bool → List ℕ → Heap
heap_from global used ages = record { global = global; used = λ k. get_or used k false; shared = λ k. false; age = λ k. get_or ages k 0 }

-- the heap that the regions are
abbrev pub heap_of : RegionState → Heap
heap_of s = record (heap_from s.global s.used s.ages) { shared = λ k. get_or s.shared k false }

-- the run lies inside the first n regions
abbrev pub IsInside : ℕ → Run → Type 0
IsInside n run = run.first + run.count ≤ n

-- region k is one of the count neighbours from first on
abbrev pub is_within : ℕ → ℕ → ℕ → Bool
is_within first count k = nat_le first k && nat_lt k (first + count)

-- each region of the run is in use
abbrev pub IsInUse : Heap → Run → Type 0
IsInUse h run = (k : ℕ) → in_run run k ≡ true → h.used k ≡ true

-- what holds of all regions: 1 to 64, no age above the global age, and those from the count on free with age 0
pub record IsHeap (s : RegionState) : Type 0 where
  pub some : 0 < s.count
  pub most : s.count ≤ 64
  pub aged : (k : ℕ) → (heap_of s).age k ≤ s.global
  pub unused : (k : ℕ) → s.count ≤ k → (heap_of s).used k ≡ false
  pub ageless : (k : ℕ) → s.count ≤ k → (heap_of s).age k ≡ 0

-- the regions are the scene's, as this heap has them
pub record AreRegionsOf (s : Scene) (heap : Heap) (regions : RegionState) : Type 0 where
  pub count : regions.count ≡ s.regions
  pub ages : heap_of regions ≡ heap
