-- What contracts see of the shared value.
use Rattle.std.specs.Prelude.{◌≡◌, ℕ, ◌+◌, List, [], ◌∷◌, ◌++◌}
use Rattle.dri_base.specs.declared.journal.Entry.{Entry}
use Rattle.dri_base.specs.declared.scene.Scene.{Scene}
use Rattle.dri_core.specs.EntryTable.{LegalEntry}
use Rattle.dri_core.specs.Runs.{after}
use Rattle.dri_core.specs.Worlds.{World}

-- the scene, the journal, and the number of entries that there is room for
pub record SharedState : Type 0 where
  pub scene : Scene
  pub journal : List Entry
  pub spare : ℕ

-- the world that the journal leaves
abbrev pub world_of : SharedState → World
world_of v = after v.scene v.journal

-- the entry is legal after those of the journal
abbrev pub MayAdd : SharedState → Entry → Type 0
MayAdd v e = LegalEntry v.scene (world_of v) e

-- the journal has one entry more, and there is room for one less
pub record Added (old new : SharedState) (e : Entry) : Type 0 where
  pub scene : new.scene ≡ old.scene
  pub journal : new.journal ≡ old.journal ++ e ∷ []
  pub spare : new.spare + 1 ≡ old.spare

-- the same scene and the same journal
pub record IsSameRun (old new : SharedState) : Type 0 where
  pub scene : new.scene ≡ old.scene
  pub journal : new.journal ≡ old.journal
