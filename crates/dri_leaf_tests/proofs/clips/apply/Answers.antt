use Rattle.std.proofs.Common.{◌≡◌, ◌≤◌, ◌+◌, arith, sym, subst}
use Rattle.std.specs.Prelude.{Result, Ok, Err, OnOk, OnErr}
use Rattle.dri_base.specs.declared.command.Change.{Change}
use Rattle.dri_model.specs.Stacks.{stack_after, touches}
use Rattle.dri_clips.specs.Boards.{IsRestacked, Screen}
use Rattle.dri_clips.specs.declared.change.ChangeFault.{ChangeFault}
use Rattle.dri_clips.specs.declared.touched.Touched.{Touched}
use Rattle.dri_clips.proofs.Restacking.{after_numbers}
use Rattle.dri_leaf_tests.specs.Boards.{HasBoth}
use Rattle.dri_leaf_tests.proofs.Windows.{still_both}
use Rattle.dri_leaf_tests.proofs.clips.apply.Goals as goal

few : (r : Result Touched ChangeFault) (change : Change) (old new : Screen) → OnOk r (IsRestacked (stack_after change old.stack) old new) → OnErr r (new ≡ old) → touches old.width old.height old.stack (stack_after change old.stack) ≤ 64 → new.counter ≤ old.counter + 64
few (Ok touched) change old new ok err most = omega (arith, ok.counter, most)
few (Err fault) change old new ok err most = let same = err in subst (λ (v : Screen). v.counter ≤ old.counter + 64) (sym same) (omega arith)

both : (r : Result Touched ChangeFault) (change : Change) (old new : Screen) → OnOk r (IsRestacked (stack_after change old.stack) old new) → OnErr r (new ≡ old) → HasBoth old → HasBoth new
both (Ok touched) change old new ok err has = still_both old new (stack_after change old.stack) ok.windows (after_numbers change old.stack) has
both (Err fault) change old new ok err has = subst HasBoth (sym err) has

pub returns-clause-counter : goal.returns-clause-counter
returns-clause-counter g c = few c.apply.result c.args.change.now c.args.board.now c.apply.new.self c.apply.ensures.ok c.apply.ensures.err (c.arranged.ensures.change c.args.change.now)

pub returns-clause-both : goal.returns-clause-both
returns-clause-both g c = λ has. both c.apply.result c.args.change.now c.args.board.now c.apply.new.self c.apply.ensures.ok c.apply.ensures.err has
