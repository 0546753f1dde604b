use Rattle.std.proofs.Common.{subst}
use Rattle.std.specs.Prelude.{ℕ, ◌≤◌}
use Rattle.dri_base.specs.declared.command.Change.{Change}
use Rattle.dri_model.specs.Stacks.{stack_after, touches, without_owner}
use Rattle.dri_clips.specs.Boards.{Screen}
use Rattle.dri_clips.proofs.Placing.{pairs_apart}
use Rattle.dri_clips.proofs.Restacking.{after_numbers, without_numbers}
use Rattle.dri_clips.proofs.Stamping.{touches_most}
use Rattle.dri_clips.proofs.board.Board.arranged.Goals as goal

pub returns-clause-stack : goal.returns-clause-stack
returns-clause-stack c = rw (← c.self.view_is) (record { each = c.self.invariant.0.ranged; apart = pairs_apart c.self.inside.layout.stack c.self.invariant.0.apart })

pub returns-clause-change : goal.returns-clause-change
returns-clause-change c = subst (λ (v : Screen). (change : Change) → touches v.width v.height v.stack (stack_after change v.stack) ≤ 64) c.self.view_is
    (λ change. touches_most c.self.inside.layout.width c.self.inside.layout.height c.self.inside.layout.stack _ c.self.invariant.0.ranged (after_numbers change c.self.inside.layout.stack))

pub returns-clause-death : goal.returns-clause-death
returns-clause-death c = subst (λ (v : Screen). (owner : ℕ) → touches v.width v.height v.stack (without_owner owner v.stack) ≤ 64) c.self.view_is
    (λ owner. touches_most c.self.inside.layout.width c.self.inside.layout.height c.self.inside.layout.stack _ c.self.invariant.0.ranged (without_numbers owner c.self.inside.layout.stack))
