-- What a turn brings to what it is made in: the site, and a client.
use Rattle.std.specs.Prelude.{◌≡◌, ◌≤◌, ◌++◌, Bool, true, false, Option, Some, None, Contains}
use Rattle.dri_base.specs.Ranges.{client_numbers}
use Rattle.dri_base.specs.declared.journal.Entry.{Entry}
use Rattle.dri_base.specs.declared.journal.Event.{Event}
use Rattle.dri_base.specs.declared.journal.Event.TheVariants.{Emit, Place, Run}
use Rattle.dri_driver.specs.Clients.{ClientState}
use Rattle.dri_driver.specs.Fits.{Fits}
use Rattle.dri_core.specs.Cores.{entry_of, journal_of}
use Rattle.dri_core.specs.Turns.{core_after, one_event}
use Rattle.dri_shared.specs.States.{MayAdd, SharedState}
use Rattle.dri_world.specs.Sites.{core_at}
use Rattle.dri_world.specs.declared.site.Site.{Site}

-- the entry, where there is one, is legal after those of the journal
abbrev pub MayAddIt : SharedState → Option Entry → Type 0
MayAddIt v None = Unit {0}
MayAddIt v (Some e) = MayAdd v e

-- the entry of the event, where there is one, is legal after those of the journal
abbrev pub MayBring : Site → Option Event → Type 0
MayBring t None = Unit {0}
MayBring t (Some e) = MayAddIt t.shared (entry_of e)

-- the client is one of the scene's and fits the journal, and there is room for an entry
pub record IsSeated (t : Site) (k : ClientState) : Type 0 where
  pub fits : Fits k t.shared
  pub there : Contains (client_numbers t.shared.scene.clients) k.number
  pub small : k.number ≤ 32
  pub room : 1 ≤ t.shared.spare

-- the event, where there is one, was made by an actor that is dying or not: the site is as the core after it has it
pub record BringsTo (dying : Bool) (o : Option Event) (t t' : Site) : Type 0 where
  pub scene : t'.shared.scene ≡ t.shared.scene
  pub journal : t'.shared.journal ≡ t.shared.journal ++ journal_of (one_event o)
  pub word : t'.lock.word ≡ (core_after t.shared.scene (core_at t dying) o).word
  pub queue : t'.lock.queue ≡ (core_after t.shared.scene (core_at t dying) o).queue

-- the same of an event of a client, which is then as the core has it
pub record Brings (o : Option Event) (t t' : Site) (k k' : ClientState) : Type 0 where
  pub site : BringsTo k.dying o t t'
  pub numbered : k'.number ≡ k.number
  pub fits : Fits k' t'.shared
  pub dying : k'.dying ≡ (core_after t.shared.scene (core_at t k.dying) o).dying k.number

-- a client that acts makes such an event: it leaves the word, the queue and who is dying as they are
abbrev pub is_still : Event → Bool
is_still (Emit c groups) = true
is_still (Place c t first count) = true
is_still (Run c i) = true
is_still e = false
