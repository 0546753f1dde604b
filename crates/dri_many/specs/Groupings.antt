-- Which groups a scene's clients may make.
use Rattle.std.specs.Prelude.{◌≢◌, ◌≤◌, ℕ, List, length, flat_map, sum_by, All, AllPairs, Contains}
use Rattle.dri_base.specs.declared.scene.Scene.{Scene}
use Rattle.dri_base.specs.Ranges.{IsWithin, client_numbers}
use Rattle.dri_many.specs.declared.grouping.Grouping.{Grouping}

-- the fewest members of a group
abbrev pub least_members : ℕ
least_members = 2

-- the most members of a group
abbrev pub most_members : ℕ
most_members = 8

-- the most currents of all groups together
abbrev pub most_currents : ℕ
most_currents = 100000

-- a group: 2 to 8 clients of the scene, and each current is one of them
pub record IsGrouping (s : Scene) (g : Grouping) : Type 0 where
  pub sized : IsWithin least_members most_members (length g.members)
  pub there : All (Contains (client_numbers s.clients)) g.members
  pub led : All (Contains g.members) g.currents

-- the members of all groups, in their order
abbrev pub all_members : List Grouping → List ℕ
all_members groups = flat_map (λ g. g.members) groups

-- how many currents there are, in all groups together
abbrev pub current_count : List Grouping → ℕ
current_count groups = sum_by (λ g. length g.currents) groups

-- groups of a scene: no client is in two of them or twice in one, and in all of them together there are at most 100,000 currents
pub record AreGroupings (s : Scene) (groups : List Grouping) : Type 0 where
  pub each : All (IsGrouping s) groups
  pub apart : AllPairs ◌≢◌ (all_members groups)
  pub few : current_count groups ≤ most_currents
