use Rattle.std.proofs.Common.{◌≡◌, ◌++◌, take}
use Rattle.std.specs.List.{filter}
use Rattle.dri_core.specs.Turns.{round}
use Rattle.dri_explore.specs.Runs.{is_kill}
use Rattle.dri_explore.proofs.choices.choices_of.Given as goal

abbrev pub invariant-loop-i : goal.invariant-loop-i
invariant-loop-i l = l.items ≡ round l.scene ++ filter is_kill (take l.i l.scene.turns)
