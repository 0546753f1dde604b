-- What touches places of a scene that was worked by hand.
use Rattle.std.specs.Prelude.{◌+◌, ◌∷◌, ℕ, List, [], Option, Some, None}
use Rattle.dri_base.specs.declared.journal.Entry.{Entry}
use Rattle.dri_base.specs.declared.scene.Scene.{Scene}
use Rattle.dri_core.specs.EntryTable.{after_entry}
use Rattle.dri_core.specs.Worlds.{World}
use Rattle.dri_history.specs.Touches.{kind_at}
use Rattle.dri_history.specs.declared.touch.Kind.{Kind}

-- the n-th entry with what it does, where it does something, before those of later entries
abbrev pub with_kind : ℕ → Option Kind → List (ℕ × Kind) → List (ℕ × Kind)
with_kind n None later = later
with_kind n (Some kind) later = (n, kind) ∷ later

-- the entries that touch a place, and what they do: of these, of which the first is the n-th and finds this world
abbrev pub kinds_by : Scene → World → ℕ → List Entry → ℕ → ℕ → List (ℕ × Kind)
kinds_by s w n [] x y = []
kinds_by s w n (e ∷ es) x y = with_kind n (kind_at s w e x y) (kinds_by s (after_entry s w e) (n + 1) es x y)
