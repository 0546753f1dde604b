use Rattle.std.specs.Prelude.{◌≡◌, map, take, drop, ◌++◌}
use Rattle.dri_model.specs.Stacks.{unmapped}
use Rattle.dri_clips.proofs.change.without_owner.Given as goal

abbrev pub invariant-loop-at : goal.invariant-loop-at
invariant-loop-at l = l.next ≡ map (unmapped l.owner) (take l.at l.stack) ++ drop l.at l.stack
