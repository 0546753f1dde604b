-- The windows so far aren't the one.
use Rattle.std.proofs.Common.{◌≡◌, drop}
use Rattle.dri_model.specs.Stacks.{window_in}
use Rattle.dri_run.proofs.alone.window_in.Given as goal

abbrev pub invariant-loop-window : goal.invariant-loop-window
invariant-loop-window l = window_in (drop l.window-index l.windows) l.number ≡ window_in l.windows l.number
