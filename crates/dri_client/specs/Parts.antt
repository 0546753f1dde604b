-- What contracts see of a client's part, and that it is the part of a world.
use Rattle.std.specs.Prelude.{◌≡◌, Bool, Option, pred, slice_get, ℕ, ℤ}
use Rattle.dri_base.specs.declared.command.Command.{Command}
use Rattle.dri_base.specs.declared.journal.Entry.{Entry}
use Rattle.dri_base.specs.declared.scene.ClientScript.{ClientScript}
use Rattle.dri_base.specs.declared.scene.Scene.{Scene}
use Rattle.dri_base.specs.declared.state.State.{State}
use Rattle.dri_core.specs.EntryTable.{after_entry}
use Rattle.dri_core.specs.Phases.{Phase}
use Rattle.dri_core.specs.Privates.{Private}
use Rattle.dri_core.specs.Worlds.{World}
use Rattle.dri_model.specs.Groups.{Groups}
use Rattle.dri_texheap.specs.Placements.{Placements, levels_of, placed_of}

-- what a client keeps, but for its copies of its window's clips and origin
pub record PartState : Type 0 where
  -- its next command, counted from 1
  pub place : ℕ
  pub phase : Phase
  -- its window's stamp, as it was told
  pub stamp : ℕ
  -- its own drawing state, and the groups of it that the card may not have
  pub state : State
  pub dirty : Groups
  -- where its textures are placed, and the levels of its shared regions
  pub placed : Placements
  -- the age up to which it knows the regions
  pub local : ℕ

-- the private part that this is, with these copies of the clips and the origin
abbrev pub private_of : PartState → (ℕ → ℕ → Bool) → ℤ × ℤ → Private
private_of p copy origin = record {
  place = p.place;
  phase = p.phase;
  stamp = p.stamp;
  copy = copy;
  origin = origin;
  state = p.state;
  dirty = p.dirty;
  placed = placed_of p.placed;
  levels = levels_of p.placed;
  local = p.local;
}

-- a private part is this one, whatever its copies are
abbrev pub Agrees : PartState → Private → Type 0
Agrees p q = private_of p q.copy q.origin ≡ q

-- the private part of client c after an entry
abbrev pub part_after : Scene → World → Entry → ℕ → Private
part_after s w e c = (after_entry s w e).client c

-- the next command of a script, where one is left
abbrev pub next_command : ClientScript → PartState → Option Command
next_command script p = slice_get script.commands (pred p.place)
