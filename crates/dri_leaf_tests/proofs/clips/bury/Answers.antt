use Rattle.std.proofs.Common.{◌≡◌, ◌≤◌, ◌+◌, ℕ, arith, sym, subst}
use Rattle.std.specs.Prelude.{Result, Ok, Err, OnOk, OnErr}
use Rattle.dri_base.specs.declared.memory.OutOfMemory.{OutOfMemory}
use Rattle.dri_model.specs.Stacks.{touches, without_owner}
use Rattle.dri_clips.specs.Boards.{IsRestacked, Screen}
use Rattle.dri_clips.specs.declared.touched.Touched.{Touched}
use Rattle.dri_leaf_tests.proofs.clips.bury.Goals as goal

few : (r : Result Touched OutOfMemory) (owner : ℕ) (old new : Screen) → OnOk r (IsRestacked (without_owner owner old.stack) old new) → OnErr r (new ≡ old) → touches old.width old.height old.stack (without_owner owner old.stack) ≤ 64 → new.counter ≤ old.counter + 64
few (Ok touched) owner old new ok err most = omega (arith, ok.counter, most)
few (Err fault) owner old new ok err most = subst (λ (v : Screen). v.counter ≤ old.counter + 64) (sym err) (omega arith)

pub returns : goal.returns
returns g c = record { counter = few c.unmap_owner.result c.args.owner c.args.board.now c.unmap_owner.new.self c.unmap_owner.ensures.ok c.unmap_owner.ensures.err (c.arranged.ensures.death c.args.owner) }
