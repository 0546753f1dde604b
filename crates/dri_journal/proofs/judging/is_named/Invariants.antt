-- The items so far don't kill the client.
use Rattle.std.proofs.Common.{◌≡◌, drop}
use Rattle.dri_base.specs.Scenes.{kills_in}
use Rattle.dri_journal.proofs.judging.is_named.Given as goal

abbrev pub invariant-loop-item : goal.invariant-loop-item
invariant-loop-item l = kills_in (drop l.item-index l.items) l.client ≡ kills_in l.items l.client
