-- What every client's part keeps true of itself.
use Rattle.std.specs.Prelude.{◌≡◌, ◌<◌, ◌≤◌, ◌+◌, ℕ, Some, IfSome, IsSome, length}
use Rattle.dri_base.specs.Ranges.{CommandsInRange, TextureInRange, texture_numbers}
use Rattle.dri_base.specs.Texels.{texture_in}
use Rattle.dri_base.specs.declared.scene.ClientScript.{ClientScript}
use Rattle.dri_base.specs.declared.texture.Texture.{Texture}
use Rattle.dri_core.specs.Phases.{Over, Ended, Dead, Phase}
use Rattle.dri_texheap.specs.Placements.{AreInside, placed_of}
use Rattle.dri_client.specs.Activities.{phase_in}
use Rattle.dri_client.specs.Parts.{PartState}
use Rattle.dri_client.specs.declared.part.ClientPart.TheInside.{Inside}

-- what contracts see of a part's fields
abbrev pub state_of : Inside → PartState
state_of p = record {
  place = p.place;
  phase = phase_in p.activity;
  stamp = p.stamp;
  state = p.context.state;
  dirty = p.context.dirty;
  placed = p.placed;
  local = p.local;
}

-- what holds of any part: a command is next or none is left, there is room for the spots of 64 textures, and a region has at most 65,536 bytes
pub record IsPart (p : PartState) : Type 0 where
  pub started : 0 < p.place
  pub roomy : length p.placed.spots ≡ 64
  pub sized : p.placed.region_size ≤ 65536

-- a script of a scene in range, with so many bytes of texture memory
pub record IsScript (script : ClientScript) : Type 0 where
  pub heap : ℕ
  pub few : length script.commands ≤ 100000
  pub commanded : CommandsInRange (texture_numbers script.textures) script.commands
  pub textured : (t : ℕ) (p : Texture) → texture_in script.textures t ≡ Some p → TextureInRange heap p

-- a command is left in this phase
abbrev pub GoesOn : Phase → ℕ → ℕ → Type 0
GoesOn Over place count = Unit {0}
GoesOn Ended place count = Unit {0}
GoesOn Dead place count = Unit {0}
GoesOn phase place count = place ≤ count

-- the part is one of this script's client, where there are so many regions
pub record IsKept (script : ClientScript) (regions : ℕ) (p : PartState) : Type 0 where
  -- its next command is one of the script's, or comes right behind them
  pub started : 0 < p.place
  pub within : p.place ≤ length script.commands + 1
  pub more : GoesOn p.phase p.place (length script.commands)
  -- the bound texture is one of the script's
  pub bound : (t : ℕ) → p.state.bound ≡ Some t → IsSome (texture_in script.textures t)
  -- what is placed lies inside the regions, and so do the shared regions
  pub inside : AreInside regions p.placed
  -- and begins at a block of a region
  pub blocks : (t : ℕ) → IfSome (placed_of p.placed t) (λ spot. spot.block ≤ 1024)

-- a step leaves a part the part of the client whose it was
abbrev pub StaysKept : PartState → PartState → Type 0
StaysKept old new = (script : ClientScript) (regions : ℕ) → IsKept script regions old → IsKept script regions new
