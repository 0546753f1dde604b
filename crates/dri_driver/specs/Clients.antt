-- What contracts see of a client.
use Rattle.std.specs.Prelude.{Bool, List, Option, pos, ℕ, ℤ}
use Rattle.dri_base.specs.declared.command.Command.{Command}
use Rattle.dri_base.specs.declared.shape.Rect.{Rect}
use Rattle.dri_base.specs.declared.state.State.{State}
use Rattle.dri_base.specs.declared.scene.Scene.{Scene}
use Rattle.dri_base.specs.Scenes.{command_at, commands_of}
use Rattle.dri_core.specs.Phases.{Phase}
use Rattle.dri_core.specs.Privates.{Private}
use Rattle.dri_model.specs.Groups.{Groups}
use Rattle.dri_rect.specs.Pixels.{inside}
use Rattle.dri_client.specs.Parts.{PartState, private_of}
use Rattle.dri_texheap.specs.Placements.{Placements}

-- what a client keeps
pub record ClientState : Type 0 where
  -- the scene, and the client's number in it
  pub scene : Scene
  pub number : ℕ
  -- it was stopped, and only its death is left
  pub dying : Bool
  -- its next command, counted from 1
  pub place : ℕ
  pub phase : Phase
  -- its window's stamp, as it was told
  pub stamp : ℕ
  -- its window's clips and origin, as it was told
  pub clips : List Rect
  pub origin : ℤ × ℤ
  -- its own drawing state, and the groups of it that the card may not have
  pub state : State
  pub dirty : Groups
  -- where its textures are placed, and the levels of its shared regions
  pub placed : Placements
  -- the age up to which it knows the regions
  pub local : ℕ

-- the screen's pixels in these rectangles, by column and row
abbrev pub copy_of : List Rect → ℕ → ℕ → Bool
copy_of clips x y = inside clips (pos x) (pos y)

-- what of it is a part without copies
abbrev pub kept_of : ClientState → PartState
kept_of k = record {
  place = k.place;
  phase = k.phase;
  stamp = k.stamp;
  state = k.state;
  dirty = k.dirty;
  placed = k.placed;
  local = k.local;
}

-- the private part that this is
abbrev pub part_of : ClientState → Private
part_of k = private_of (kept_of k) (copy_of k.clips) k.origin

-- its script
abbrev pub script_of_client : ClientState → List Command
script_of_client k = commands_of k.scene k.number

-- its next command, where one is left
abbrev pub next_command : ClientState → Option Command
next_command k = command_at k.scene k.number k.place
