use Rattle.std.proofs.Common.{◌≡◌, Bool, true, false, refl, arith}
use Rattle.std.specs.Bool.{Decides}
use Rattle.std.proofs.lemmas.Slice.Eq.{slice_eq-Decides}
use mathlib.Core.Bool.{beq}
use Rattle.dri_explore.proofs.same.are_flags.Goals as goal

same_flag : (a b : Bool) → Decides (beq a b) (a ≡ b)
same_flag true true = (λ e. refl, λ e. refl)
same_flag true false = (λ e. grind arith, λ e. grind arith)
same_flag false true = (λ e. grind arith, λ e. grind arith)
same_flag false false = (λ e. refl, λ e. refl)

pub returns : goal.returns
returns c = slice_eq-Decides same_flag _ _ _ c.eq.ensures
