-- What the two sides of the shared value stand for. The contracts of the sides, and of the crates above, speak of them in these words alone.
use Rattle.std.specs.Prelude.{◌≡◌, ℕ}
use Rattle.std.specs.Borrow.{GName}
use Rattle.dri_base.specs.declared.journal.Entry.{Entry}
use Rattle.dri_core.specs.Privates.{Private}
use Rattle.dri_core.specs.Worlds.{World}
use Rattle.dri_shared.specs.States.{SharedState, Added, world_of, MayAdd}
use Rattle.dri_shared.specs.declared.client_side.ClientSide.{ClientSide}
use Rattle.dri_shared.specs.declared.server_side.ServerSide.{ServerSide}

-- the shared value that a client's side makes its events in
abbrev pub value_at : ClientSide → SharedState
value_at side = side.shared.now

-- the client whose events they are
abbrev pub client_at : ClientSide → ℕ
client_at side = side.client

-- the borrow that the side lives on
abbrev pub borrow_of : ClientSide → GName
borrow_of side = side.shared.ghost_name

-- the world that the side finds
abbrev pub world_at : ClientSide → World
world_at side = world_of (value_at side)

-- the client's private part there
abbrev pub part_at : ClientSide → Private
part_at side = (world_at side).client (client_at side)

-- the entry is legal there
abbrev pub MayMake : ClientSide → Entry → Type 0
MayMake side e = MayAdd (value_at side) e

-- the side of the same client, over the same borrow
pub record IsSameSide (old new : ClientSide) : Type 0 where
  pub borrow : borrow_of new ≡ borrow_of old
  pub client : client_at new ≡ client_at old

-- the side has made an event: this entry is added
pub record Makes (old new : ClientSide) (e : Entry) : Type 0 where
  pub same : IsSameSide old new
  pub added : Added (value_at old) (value_at new) e

-- the shared value that the server's side makes its events in
abbrev pub served_at : ServerSide → SharedState
served_at side = side.shared.now

-- the borrow that the side lives on
abbrev pub server_borrow_of : ServerSide → GName
server_borrow_of side = side.shared.ghost_name

-- the side has made an event: this entry is added
pub record Serves (old new : ServerSide) (e : Entry) : Type 0 where
  pub borrow : server_borrow_of new ≡ server_borrow_of old
  pub added : Added (served_at old) (served_at new) e

-- the side made no event
pub record IsUnserved (old new : ServerSide) : Type 0 where
  pub borrow : server_borrow_of new ≡ server_borrow_of old
  pub value : served_at new ≡ served_at old
