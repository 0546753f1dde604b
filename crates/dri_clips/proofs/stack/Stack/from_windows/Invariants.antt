use Rattle.std.specs.Prelude.{◌≡◌, map, take}
use Rattle.dri_clips.proofs.Placing.{entry_of}
use Rattle.dri_clips.proofs.stack.Stack.from_windows.Given as goal

abbrev pub invariant-loop-window : goal.invariant-loop-window
invariant-loop-window l = l.stack.entries ≡ map entry_of (take l.window-index l.windows)
