-- What a node keeps of its run.
use Rattle.std.specs.Prelude.{◌≡◌, ℕ, [], ◌∷◌, ◌++◌, length, map, All, Option, Some, None}
use Rattle.dri_base.specs.Ranges.{client_numbers}
use Rattle.dri_base.specs.declared.command.Item.{Item}
use Rattle.dri_base.specs.declared.journal.Event.{Event}
use Rattle.dri_base.specs.declared.scene.Scene.{Scene}
use Rattle.dri_core.specs.Cores.{journal_of, word_number}
use Rattle.dri_core.specs.Turns.{item_event}
use Rattle.dri_explore.specs.Runs.{core_by, run_by}
use Rattle.dri_explore.specs.declared.node.Node.{Node}
use Rattle.dri_world.specs.Courses.{MayTake}

-- the items may be taken, and the rest is what their run leaves
pub record IsNode (s : Scene) (node : Node) : Type 0 where
  pub may : All (MayTake s) node.items
  pub journal : node.journal ≡ journal_of (run_by s node.items)
  pub word : node.word ≡ word_number (core_by s node.items).word
  pub queue : node.queue ≡ (core_by s node.items).queue
  pub dying : node.dying ≡ map (core_by s node.items).dying (client_numbers s.clients)

-- a node of a run of so many events
pub record IsNodeOf (s : Scene) (number : ℕ) (node : Node) : Type 0 where
  pub kept : IsNode s node
  pub made : length (run_by s node.items) ≡ number

-- two nodes tell the same beside their items
pub record IsSameKey (a b : Node) : Type 0 where
  pub word : a.word ≡ b.word
  pub queue : a.queue ≡ b.queue
  pub dying : a.dying ≡ b.dying
  pub journal : a.journal ≡ b.journal

-- the node of the run with one item more, where that makes an event
abbrev pub IsAfterBy : Scene → Node → Item → Option Event → Option Node → Type 0
IsAfterBy s node item None None = Unit {0}
IsAfterBy s node item None (Some next) = ⊥
IsAfterBy s node item (Some e) None = ⊥
IsAfterBy s node item (Some e) (Some next) = IsNode s next × (next.items ≡ node.items ++ item ∷ []) × (run_by s next.items ≡ run_by s node.items ++ e ∷ [])

-- what comes after a node by an item
abbrev pub IsAfter : Scene → Node → Item → Option Node → Type 0
IsAfter s node item next = IsAfterBy s node item (item_event s (core_by s node.items) item) next
