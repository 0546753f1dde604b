-- A client and the shared value in which it makes its events.
use Rattle.std.specs.Prelude.{◌≡◌, ◌≢◌}
use Rattle.dri_base.specs.Scenes.{window_of}
use Rattle.dri_base.specs.declared.journal.Entry.{Entry}
use Rattle.dri_core.specs.Worlds.{World}
use Rattle.dri_shared.specs.Sides.{Makes, value_at}
use Rattle.dri_shared.specs.States.{SharedState, world_of}
use Rattle.dri_shared.specs.declared.client_side.ClientSide.{ClientSide}
use Rattle.dri_driver.specs.Clients.{ClientState, part_of}

-- the value is of the client's scene, and the client keeps the part that the journal leaves it
pub record Fits (k : ClientState) (v : SharedState) : Type 0 where
  pub scene : k.scene ≡ v.scene
  pub part : part_of k ≡ (world_of v).client k.number

-- the same client of the same scene, and dying as before
pub record IsSameClient (old new : ClientState) : Type 0 where
  pub scene : new.scene ≡ old.scene
  pub number : new.number ≡ old.number
  pub dying : new.dying ≡ old.dying

-- the client has made the event of this entry in its side, and fits what it leaves
pub record HasMade (old new : ClientState) (before after : ClientSide) (e : Entry) : Type 0 where
  pub makes : Makes before after e
  pub fits : Fits new (value_at after)
  pub same : IsSameClient old new

-- the stamp of the client's window isn't the one that it was told
abbrev pub IsStale : ClientState → World → Type 0
IsStale k w = k.stamp ≢ w.stamps (window_of k.scene k.number)
