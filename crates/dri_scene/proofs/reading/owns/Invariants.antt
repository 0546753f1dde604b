-- The windows so far have other numbers.
use Rattle.std.proofs.Common.{◌≡◌, drop}
use Rattle.dri_scene.specs.Readings.{owns}
use Rattle.dri_scene.proofs.reading.owns.Given as goal

abbrev pub invariant-loop-window : goal.invariant-loop-window
invariant-loop-window l = owns (drop l.window-index l.windows) l.number l.client ≡ owns l.windows l.number l.client
