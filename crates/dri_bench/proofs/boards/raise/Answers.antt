use Rattle.std.proofs.Common.{◌≡◌, ◌≤◌, ◌+◌, arith, sym, subst}
use Rattle.std.specs.Prelude.{Result, Ok, Err, OnOk, OnErr}
use Rattle.dri_base.specs.declared.command.Change.{Change}
use Rattle.dri_model.specs.Stacks.{stack_after, touches}
use Rattle.dri_clips.specs.Boards.{IsRestacked, Screen}
use Rattle.dri_clips.specs.declared.change.ChangeFault.{ChangeFault}
use Rattle.dri_clips.specs.declared.touched.Touched.{Touched}

few : (r : Result Touched ChangeFault) (change : Change) (old new : Screen) → OnOk r (IsRestacked (stack_after change old.stack) old new) → OnErr r (new ≡ old) → touches old.width old.height old.stack (stack_after change old.stack) ≤ 64 → new.counter ≤ old.counter + 64
few (Ok touched) change old new ok err most = omega (arith, ok.counter, most)
few (Err fault) change old new ok err most = let same = err in subst (λ (v : Screen). v.counter ≤ old.counter + 64) (sym same) (omega arith)
