-- What one client keeps: its private part.
use Rattle.std.specs.Prelude.{Bool, List, None, Option, Some, false, if◌then◌else◌, is_some, length, pos, true, ℕ, ℤ, ◌&&◌, ◌==◌}
use Rattle.dri_base.specs.States.{default_state, state_after}
use Rattle.dri_base.specs.Texels.{texture_bound, texture_in}
use Rattle.dri_base.specs.declared.command.Command.{Command}
use Rattle.dri_base.specs.declared.command.Command.TheVariants.{Die, Triangle}
use Rattle.dri_base.specs.declared.scene.Scene.{Scene}
use Rattle.dri_base.specs.declared.state.Registers.{Registers}
use Rattle.dri_base.specs.declared.state.State.{State}
use Rattle.dri_base.specs.declared.state.TexMode.{TexMode}
use Rattle.dri_base.specs.declared.texture.BoundTexture.{BoundTexture}
use Rattle.dri_base.specs.declared.texture.Texture.{Texture}
use Rattle.dri_core.specs.Phases.{Phase, first_phase}
use Rattle.dri_base.specs.Scenes.{bytes_of, textures_of}
use Rattle.dri_model.specs.Groups.{Groups, all_groups, is_empty}
use Rattle.dri_model.specs.Heaps.{Run, Spot, any_in, base_of, lose}
use Rattle.dri_model.specs.Shares.{blocks_for, is_small_for, room_for}
use Rattle.dri_model.specs.Words.{registers_for}
use Rattle.dri_base.specs.declared.state.TexMode.TheVariants as Mode_is

-- what one client keeps
pub record Private : Type 0 where
  -- its next command, counted from 1
  pub place : ℕ
  pub phase : Phase
  -- its window's stamp, as it was told
  pub stamp : ℕ
  -- its copy of its window's clips, by column and row of the screen
  pub copy : ℕ → ℕ → Bool
  -- its copy of its window's origin
  pub origin : ℤ × ℤ
  -- its own drawing state
  pub state : State
  -- the groups that the card may not have as the client wants them
  pub dirty : Groups
  -- where its placed textures stand, by number
  pub placed : ℕ → Option Spot
  -- the levels of its shared regions, by the region's number
  pub levels : ℕ → Option ℕ
  -- the age up to which it knows the regions
  pub local : ℕ

-- a client's part at the opening
abbrev pub opening_part : List Command → Private
opening_part cs = record {
  place = 1;
  phase = first_phase cs;
  stamp = 0;
  copy = λ x y. false;
  origin = (pos 0, pos 0);
  state = default_state;
  dirty = all_groups;
  placed = λ t. None;
  levels = λ k. None;
  local = 0;
}

-- the texture that a triangle needs: the bound one, where the mode isn't off
abbrev pub texture_used : TexMode → Option ℕ → Option ℕ
texture_used Mode_is.Off bound = None
texture_used _ bound = bound

-- the texture that the state is textured with
abbrev pub textured_with : State → Option ℕ
textured_with s = texture_used s.tex_mode s.bound

-- where a texture is placed
abbrev pub spot_of : (ℕ → Option Spot) → Option ℕ → Option Spot
spot_of placed None = None
spot_of placed (Some t) = placed t

-- where the texture stands that a triangle needs
abbrev pub used_spot : Private → Option Spot
used_spot p = spot_of p.placed (textured_with p.state)

-- the run of a spot, where there is one
abbrev pub run_in : Option Spot → Option Run
run_in None = None
run_in (Some spot) = Some spot.run

-- the run of the texture that a triangle needs
abbrev pub used_run : Private → Option Run
used_run p = run_in (used_spot p)

-- no texture is needed, or it is placed
abbrev pub is_ready_for : (ℕ → Option Spot) → Option ℕ → Bool
is_ready_for placed None = true
is_ready_for placed (Some t) = is_some (placed t)

-- a texture that a triangle needs is placed
abbrev pub is_ready : Private → Bool
is_ready p = is_ready_for p.placed (textured_with p.state)

-- a placed texture by its shape and its base
abbrev pub bound_at : ℕ → Option Texture → Option Spot → Option BoundTexture
bound_at size None spot = None
bound_at size (Some t) None = None
bound_at size (Some t) (Some spot) = Some (record { shape = t.shape; base = base_of size spot })

-- the bound texture as the card is to know it: none where it isn't placed
abbrev pub bound_texture : Scene → ℕ → Private → Option BoundTexture
bound_texture s c p = bound_at s.region_size (texture_bound (textures_of s c) p.state.bound) (spot_of p.placed p.state.bound)

-- the registers that client c would emit now
abbrev pub own_registers : Scene → ℕ → Private → Registers
own_registers s c p = registers_for p.state (bound_texture s c p)

-- the command is a triangle
abbrev pub is_triangle : Option Command → Bool
is_triangle (Some (Triangle t)) = true
is_triangle _ = false

-- there is a command, and it can be run: all but die, and a triangle only where the card is ready for it
abbrev pub can_run : Bool → Option Command → Bool
can_run ready None = false
can_run ready (Some Die) = false
can_run ready (Some (Triangle t)) = ready
can_run ready (Some _) = true

-- nothing is dirty, and a texture that a triangle needs is placed
abbrev pub can_draw : Private → Bool
can_draw p = is_empty p.dirty && is_ready p

-- the client's state after a command
abbrev pub state_by : Option Command → State → State
state_by None old = old
state_by (Some command) old = state_after command old

-- a placed texture with a region that has the property is lost
abbrev pub loses : (ℕ → Bool) → Option Spot → Bool
loses f None = false
loses f (Some spot) = any_in spot.run f

-- the client's bound texture is lost, where regions with the property go
abbrev pub is_bound_lost : Private → (ℕ → Bool) → Bool
is_bound_lost p f = loses f (spot_of p.placed p.state.bound)

-- the placed textures after texture t is put in the spot, where the textures of freed regions are lost
abbrev pub placed_after : (ℕ → Option Spot) → (ℕ → Bool) → ℕ → Spot → ℕ → Option Spot
placed_after placed freed t spot u = if u == t then Some spot else lose freed (placed u)

-- the number of bytes of texture t of client c
abbrev pub size_of : Scene → ℕ → ℕ → ℕ
size_of s c t = length (bytes_of (texture_in (textures_of s c) t))

-- texture t of client c is small
abbrev pub is_small : Scene → ℕ → ℕ → Bool
is_small s c t = is_small_for s.region_size (size_of s c t)

-- the blocks that texture t of client c takes, where it is small
abbrev pub blocks_needed : Scene → ℕ → ℕ → ℕ
blocks_needed s c t = blocks_for (size_of s c t)

-- where there is room for a texture of so many bytes in shared regions of a size, above their levels: only for a small one
abbrev pub room_by : ℕ → (ℕ → Option ℕ) → ℕ → Option Spot
room_by size levels bytes = if is_small_for size bytes then room_for size levels (blocks_for bytes) else None

-- where there is room for texture t in client c's shared regions
abbrev pub room_in : Scene → ℕ → Private → ℕ → Option Spot
room_in s c p t = room_by s.region_size p.levels (size_of s c t)
