use Rattle.std.proofs.Common.{◌≡◌, take}
use Rattle.std.specs.Prelude.{All}
use Rattle.dri_explore.proofs.ends.Ends.picture_of.Given as goal

abbrev pub invariant-loop-i : goal.invariant-loop-i
invariant-loop-i l = record {
  same : l.self ≡ l.fn.self;
  apart : All (λ picture. picture ≡ l.pixels → ⊥) (take l.i l.self.pictures);
}
