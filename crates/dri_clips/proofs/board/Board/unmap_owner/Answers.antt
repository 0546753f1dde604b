use Rattle.std.proofs.Common.{◌≡◌, ◌≤◌, ◌+◌, List, ap, sym, subst, ◌∙◌}
use Rattle.std.specs.Prelude.{All, ◌==◌}
use Rattle.dri_base.specs.declared.scene.Window.{Window}
use Rattle.dri_base.specs.Ranges.{WindowInRange}
use Rattle.dri_model.specs.Stacks.{without_owner}
use Rattle.dri_clips.specs.Areas.{others}
use Rattle.dri_clips.specs.Mends.{mending_cost, moving_cost}
use Rattle.dri_clips.specs.Boards.{Screen}
use Rattle.dri_clips.specs.Layouts.{AreDistinct, SameNumbers}
use Rattle.dri_clips.proofs.Restacking.{death_cost, others_without, without_numbers, without_ranged}
use Rattle.dri_clips.proofs.board.Board.unmap_owner.Goals as goal

pub restack-requires-clause-ranged : goal.restack-requires-clause-ranged
restack-requires-clause-ranged g c = subst (λ (ws : List Window). All WindowInRange ws) (sym c.in_ok-stack.ensures) (without_ranged c.args.owner c.self.inside.layout.stack c.self.invariant.0.ranged)

pub restack-requires-clause-numbers : goal.restack-requires-clause-numbers
restack-requires-clause-numbers g c =
    subst (λ (v : Screen). SameNumbers v.stack c.in_ok-stack.stack) c.self.view_is
    (subst (λ (ws : List Window). SameNumbers c.self.inside.layout.stack ws) (sym c.in_ok-stack.ensures) (without_numbers c.args.owner c.self.inside.layout.stack))

pub restack-requires-clause-others : goal.restack-requires-clause-others
restack-requires-clause-others g c =
    subst (λ (v : Screen). others (λ w. w.owner == c.args.owner) v.stack ≡ others (λ w. w.owner == c.args.owner) c.in_ok-stack.stack) c.self.view_is
    (others_without c.args.owner c.self.inside.layout.stack ∙ ap (λ (ws : List Window). others (λ w. w.owner == c.args.owner) ws) (sym c.in_ok-stack.ensures))

pub returns-clause-steps : goal.returns-clause-steps
returns-clause-steps g c =
    death_cost c.args.owner c.args.self.now.stack c.args.steps.now c.restack.new.steps (subst (λ (v : Screen). AreDistinct v.stack) c.self.view_is c.self.invariant.0.apart)
    (subst (λ (ws : List Window). c.restack.new.steps ≤ c.args.steps.now + (mending_cost (λ w. w.owner == c.args.owner) c.args.self.now.stack ws + moving_cost)) (c.in_ok-stack.ensures ∙ ap (λ (v : Screen). without_owner c.args.owner v.stack) c.self.view_is) c.restack.ensures.steps)
