-- The core as one actor finds it at a site, and what its turn and its kill bring there.
use Rattle.std.specs.Prelude.{Bool, Option}
use Rattle.dri_base.specs.declared.journal.Event.{Event}
use Rattle.dri_core.specs.Cores.{Core}
use Rattle.dri_core.specs.Turns.{kill, turn_of}
use Rattle.dri_driver.specs.Clients.{ClientState}
use Rattle.dri_shared.specs.States.{world_of}
use Rattle.dri_world.specs.declared.site.Site.{Site}

-- the world that the journal leaves, the word and the queue of the lock, and whether this actor is dying
abbrev pub core_at : Site → Bool → Core
core_at t dying = record { world = world_of t.shared; word = t.lock.word; queue = t.lock.queue; dying = λ d. dying }

-- the event that is the client's turn here
abbrev pub turn_at : Site → ClientState → Option Event
turn_at t k = turn_of t.shared.scene (core_at t k.dying) k.number

-- the event that is the client's kill here
abbrev pub kill_at : Site → ClientState → Option Event
kill_at t k = kill (core_at t k.dying) k.number
