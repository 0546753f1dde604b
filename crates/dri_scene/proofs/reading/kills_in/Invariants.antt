-- The items so far kill no such client.
use Rattle.std.proofs.Common.{◌≡◌, drop}
use Rattle.dri_base.specs.Scenes.{kills_in}
use Rattle.dri_scene.proofs.reading.kills_in.Given as goal

abbrev pub invariant-loop-item : goal.invariant-loop-item
invariant-loop-item l = kills_in (drop l.item-index l.items) l.client ≡ kills_in l.items l.client
