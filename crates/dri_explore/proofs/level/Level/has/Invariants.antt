use Rattle.std.proofs.Common.{take}
use Rattle.std.specs.Prelude.{All}
use Rattle.dri_explore.specs.Nodes.{IsSameKey}
use Rattle.dri_explore.proofs.level.Level.has.Given as goal

abbrev pub invariant-loop-i : goal.invariant-loop-i
invariant-loop-i l = All (λ other. IsSameKey other l.node → ⊥) (take l.i l.self.nodes)
