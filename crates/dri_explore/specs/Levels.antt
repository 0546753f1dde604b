-- Levels: which runs of one number of events their nodes stand for.
use Rattle.std.specs.Prelude.{◌≡◌, ◌+◌, ◌≤◌, ◌⊎◌, ℕ, Bool, true, false, List, [], ◌∷◌, ◌++◌, length, All, AllPairs, Contains, Option, Some, None}
use Rattle.dri_base.specs.declared.command.Item.{Item}
use Rattle.dri_base.specs.declared.journal.Event.{Event}
use Rattle.dri_base.specs.declared.scene.Scene.{Scene}
use Rattle.dri_core.specs.CoreRuns.{IsRun}
use Rattle.dri_core.specs.Turns.{item_event}
use Rattle.dri_explore.specs.Ends.{HasMore, LeaveSame}
use Rattle.dri_explore.specs.Nodes.{IsNodeOf, IsSameKey}
use Rattle.dri_explore.specs.Runs.{core_by, run_by}
use Rattle.dri_explore.specs.declared.level.Level.{Level}
use Rattle.dri_explore.specs.declared.node.Node.{Node}

-- a node's run leaves the same as these events
abbrev pub Has : Scene → List Node → List Event → Type 0
Has s nodes events = (node : Node) × Contains nodes node × LeaveSame s (run_by s node.items) events

-- a node tells the same as this one
abbrev pub HasKey : List Node → Node → Type 0
HasKey nodes node = (other : Node) × Contains nodes other × IsSameKey other node

-- nodes of runs of so many events, no two of which tell the same
pub record IsPart (s : Scene) (number : ℕ) (nodes : List Node) : Type 0 where
  pub each : All (IsNodeOf s number) nodes
  pub apart : AllPairs (λ a b. IsSameKey a b → ⊥) nodes

-- and each run of so many events leaves the same as one of them
pub record IsLevel (s : Scene) (level : Level) : Type 0 where
  pub part : IsPart s level.made level.nodes
  pub all : (events : List Event) → IsRun s events → length events ≡ level.made → Has s level.nodes events

-- a node was put last, where none tells the same; or there was no room for it
abbrev pub Keeps : Bool → List Node → List Node → Node → ℕ → Type 0
Keeps true old new node limit = (HasKey old node × (new ≡ old)) ⊎ ((HasKey old node → ⊥) × (new ≡ old ++ node ∷ []))
Keeps false old new node limit = (HasKey old node → ⊥) × (limit ≤ length old)

-- what comes next, where something does, was kept
abbrev pub KeepsNext : Bool → Level → Level → Option Node → ℕ → Type 0
KeepsNext kept old new None limit = (kept ≡ true) × (new ≡ old)
KeepsNext kept old new (Some node) limit = (new.made ≡ old.made) × Keeps kept old.nodes new.nodes node limit

-- what these items make after a node's run is there
abbrev pub HasNext : Scene → Node → List Item → List Node → Type 0
HasNext s node items nodes =
    (item : Item) (e : Event) → Contains items item → item_event s (core_by s node.items) item ≡ Some e → Has s nodes (run_by s node.items ++ e ∷ [])

-- the runs that go on from a node by these items were put last
pub record GoesOnFrom (s : Scene) (node : Node) (items : List Item) (old new : Level) : Type 0 where
  pub made : new.made ≡ old.made
  pub part : IsPart s new.made new.nodes
  pub kept : (events : List Event) → Has s old.nodes events → Has s new.nodes events
  pub next : HasNext s node items new.nodes

-- that, or there was no room for them
abbrev pub Follows : Bool → Scene → Node → List Item → ℕ → Level → Level → Type 0
Follows true s node items limit old new = GoesOnFrom s node items old new
Follows false s node items limit old new = HasMore s old.made limit

-- the next level, or too many nodes for one
abbrev pub IsNextLevel : Scene → ℕ → ℕ → Option Level → Type 0
IsNextLevel s made limit (Some next) = IsLevel s next × (next.made ≡ made + 1)
IsNextLevel s made limit None = HasMore s (made + 1) limit
