-- What every client keeps true of itself.
use Rattle.std.specs.Prelude.{◌≡◌, ℕ, Some, slice_get}
use Rattle.std.specs.Arc.{arc_value}
use Rattle.dri_base.specs.Ranges.{InRange}
use Rattle.dri_base.specs.Scenes.{script_of}
use Rattle.dri_shared.specs.Copies.{IsCopyOf, corner}
use Rattle.dri_client.specs.Kept.{IsKept}
use Rattle.dri_driver.specs.Clients.{ClientState, copy_of, kept_of}
use Rattle.dri_driver.specs.declared.client.Client.TheInside.{Inside}

-- what contracts see of a client's fields
abbrev pub state_of : Inside → ClientState
state_of c = record {
  scene = arc_value c.scene;
  number = c.number;
  dying = c.is_dying;
  place = c.part.place;
  phase = c.part.phase;
  stamp = c.part.stamp;
  clips = c.clips;
  origin = corner c.origin;
  state = c.part.state;
  dirty = c.part.dirty;
  placed = c.part.placed;
  local = c.part.local;
}

-- what holds of a client, whose script stands at this place of the scene's
pub record IsClient (k : ClientState) (index : ℕ) : Type 0 where
  pub good : InRange k.scene
  -- the script is its own
  pub there : slice_get k.scene.clients index ≡ Some (script_of k.scene k.number)
  -- the part is its own
  pub kept : IsKept (script_of k.scene k.number) k.scene.regions (kept_of k)
  -- its regions have as many bytes as the scene's
  pub sized : k.placed.region_size ≡ k.scene.region_size
  -- its copy of the clips is one of screen pixels
  pub copy : IsCopyOf k.clips (copy_of k.clips)
