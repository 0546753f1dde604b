use Rattle.std.proofs.Common.{◌≡◌, take}
use Rattle.std.specs.Prelude.{All}
use Rattle.dri_explore.proofs.ends.Ends.has.Given as goal

abbrev pub invariant-loop-i : goal.invariant-loop-i
invariant-loop-i l = All (λ e. e.journal ≡ l.journal → ⊥) (take l.i l.self.ends)
