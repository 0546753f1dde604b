use Rattle.std.proofs.Common.{◌≡◌, ◌≤◌, ◌<◌, ◌+◌, ◌*◌, ◌∙◌, ℕ, List, None, ap, sym, subst}
use Rattle.std.specs.Prelude.{All, IfSome, Option, ◌==◌}
use Rattle.std.proofs.lemmas.Result.{err_from_is_err_and}
use Rattle.dri_base.specs.declared.scene.Window.{Window}
use Rattle.dri_base.specs.Ranges.{WindowInRange}
use Rattle.dri_base.specs.Scenes.{named_by}
use Rattle.dri_model.specs.Stacks.{Refusal, moved_by, moves, moves_unless, refusal, stack_after}
use Rattle.dri_clips.specs.Areas.{others, reached}
use Rattle.dri_clips.specs.Boards.{IsRestacked, Screen}
use Rattle.dri_clips.specs.Layouts.{AreDistinct, SameNumbers}
use Rattle.dri_clips.specs.Paints.{IsTouched}
use Rattle.dri_clips.proofs.Carrying.{moves_low, placed_low}
use Rattle.dri_clips.proofs.Restacking.{after_numbers, after_ranged, change_cost, others_after}
use Rattle.dri_clips.proofs.Telling.{done_so, memory_so}
use Rattle.dri_clips.proofs.board.Board.apply.Goals as goal

pub restack-requires-clause-ranged : goal.restack-requires-clause-ranged
restack-requires-clause-ranged g c = subst (λ (ws : List Window). All WindowInRange ws) (sym c.in_ok-stack.ensures) (after_ranged c.args.change.now c.self.inside.layout.stack c.self.invariant.0.ranged)

pub restack-requires-clause-numbers : goal.restack-requires-clause-numbers
restack-requires-clause-numbers g c =
    subst (λ (v : Screen). SameNumbers v.stack c.in_ok-stack.stack) c.self.view_is
    (subst (λ (ws : List Window). SameNumbers c.self.inside.layout.stack ws) (sym c.in_ok-stack.ensures) (after_numbers c.args.change.now c.self.inside.layout.stack))

pub returns-clause-allowed : goal.returns-clause-allowed
returns-clause-allowed g c = rw (← c.self.view_is) c.in_ok-at.ensures.ok

pub returns-clause-ok : goal.returns-clause-ok
returns-clause-ok g c =
    subst (λ (ws : List Window). IsRestacked ws c.args.self.now c.restack.new.self) (c.in_ok-stack.ensures ∙ ap (λ (v : Screen). stack_after c.args.change.now v.stack) c.self.view_is) c.in_ok-restack.ensures.ok

pub returns-in_err-stack-clause-no_window : goal.returns-in_err-stack-clause-no_window
returns-in_err-stack-clause-no_window g c =
    let p = err_from_is_err_and c.from_residual-in_err-stack.result c.from_residual-in_err-stack.ensures.1 in
    let none : refusal c.args.change.now c.args.self.now.stack ≡ None = rw (← c.self.view_is) c.in_ok-at.ensures.ok in
    rw (p.1, p.2) (memory_so (refusal c.args.change.now c.args.self.now.stack) Refusal.NoWindow none)

pub returns-in_err-restack-clause-no_window : goal.returns-in_err-restack-clause-no_window
returns-in_err-restack-clause-no_window g c =
    let p = err_from_is_err_and c.from_residual-in_err-restack.result c.from_residual-in_err-restack.ensures.1 in
    let none : refusal c.args.change.now c.args.self.now.stack ≡ None = rw (← c.self.view_is) c.in_ok-at.ensures.ok in
    rw (p.1, p.2) (memory_so (refusal c.args.change.now c.args.self.now.stack) Refusal.NoWindow none)

pub returns-clause-no_window : goal.returns-clause-no_window
returns-clause-no_window g c =
    let none : refusal c.args.change.now c.args.self.now.stack ≡ None = rw (← c.self.view_is) c.in_ok-at.ensures.ok in
    done_so (refusal c.args.change.now c.args.self.now.stack) c.in_ok-restack.field-0 _ Refusal.NoWindow none

pub returns-in_err-stack-clause-out_of_range : goal.returns-in_err-stack-clause-out_of_range
returns-in_err-stack-clause-out_of_range g c =
    let p = err_from_is_err_and c.from_residual-in_err-stack.result c.from_residual-in_err-stack.ensures.1 in
    let none : refusal c.args.change.now c.args.self.now.stack ≡ None = rw (← c.self.view_is) c.in_ok-at.ensures.ok in
    rw (p.1, p.2) (memory_so (refusal c.args.change.now c.args.self.now.stack) Refusal.OutOfRange none)

pub returns-in_err-restack-clause-out_of_range : goal.returns-in_err-restack-clause-out_of_range
returns-in_err-restack-clause-out_of_range g c =
    let p = err_from_is_err_and c.from_residual-in_err-restack.result c.from_residual-in_err-restack.ensures.1 in
    let none : refusal c.args.change.now c.args.self.now.stack ≡ None = rw (← c.self.view_is) c.in_ok-at.ensures.ok in
    rw (p.1, p.2) (memory_so (refusal c.args.change.now c.args.self.now.stack) Refusal.OutOfRange none)

pub returns-clause-out_of_range : goal.returns-clause-out_of_range
returns-clause-out_of_range g c =
    let none : refusal c.args.change.now c.args.self.now.stack ≡ None = rw (← c.self.view_is) c.in_ok-at.ensures.ok in
    done_so (refusal c.args.change.now c.args.self.now.stack) c.in_ok-restack.field-0 _ Refusal.OutOfRange none

pub returns-in_err-stack-clause-already_mapped : goal.returns-in_err-stack-clause-already_mapped
returns-in_err-stack-clause-already_mapped g c =
    let p = err_from_is_err_and c.from_residual-in_err-stack.result c.from_residual-in_err-stack.ensures.1 in
    let none : refusal c.args.change.now c.args.self.now.stack ≡ None = rw (← c.self.view_is) c.in_ok-at.ensures.ok in
    rw (p.1, p.2) (memory_so (refusal c.args.change.now c.args.self.now.stack) Refusal.AlreadyMapped none)

pub returns-in_err-restack-clause-already_mapped : goal.returns-in_err-restack-clause-already_mapped
returns-in_err-restack-clause-already_mapped g c =
    let p = err_from_is_err_and c.from_residual-in_err-restack.result c.from_residual-in_err-restack.ensures.1 in
    let none : refusal c.args.change.now c.args.self.now.stack ≡ None = rw (← c.self.view_is) c.in_ok-at.ensures.ok in
    rw (p.1, p.2) (memory_so (refusal c.args.change.now c.args.self.now.stack) Refusal.AlreadyMapped none)

pub returns-clause-already_mapped : goal.returns-clause-already_mapped
returns-clause-already_mapped g c =
    let none : refusal c.args.change.now c.args.self.now.stack ≡ None = rw (← c.self.view_is) c.in_ok-at.ensures.ok in
    done_so (refusal c.args.change.now c.args.self.now.stack) c.in_ok-restack.field-0 _ Refusal.AlreadyMapped none

pub returns-in_err-stack-clause-not_mapped : goal.returns-in_err-stack-clause-not_mapped
returns-in_err-stack-clause-not_mapped g c =
    let p = err_from_is_err_and c.from_residual-in_err-stack.result c.from_residual-in_err-stack.ensures.1 in
    let none : refusal c.args.change.now c.args.self.now.stack ≡ None = rw (← c.self.view_is) c.in_ok-at.ensures.ok in
    rw (p.1, p.2) (memory_so (refusal c.args.change.now c.args.self.now.stack) Refusal.NotMapped none)

pub returns-in_err-restack-clause-not_mapped : goal.returns-in_err-restack-clause-not_mapped
returns-in_err-restack-clause-not_mapped g c =
    let p = err_from_is_err_and c.from_residual-in_err-restack.result c.from_residual-in_err-restack.ensures.1 in
    let none : refusal c.args.change.now c.args.self.now.stack ≡ None = rw (← c.self.view_is) c.in_ok-at.ensures.ok in
    rw (p.1, p.2) (memory_so (refusal c.args.change.now c.args.self.now.stack) Refusal.NotMapped none)

pub returns-clause-not_mapped : goal.returns-clause-not_mapped
returns-clause-not_mapped g c =
    let none : refusal c.args.change.now c.args.self.now.stack ≡ None = rw (← c.self.view_is) c.in_ok-at.ensures.ok in
    done_so (refusal c.args.change.now c.args.self.now.stack) c.in_ok-restack.field-0 _ Refusal.NotMapped none

pub restack-requires-clause-others : goal.restack-requires-clause-others
restack-requires-clause-others g c =
    subst (λ (n : ℕ). others (λ w. w.number == n) c.args.self.now.stack ≡ others (λ w. w.number == n) c.in_ok-stack.stack) (sym c.window.ensures)
    (subst (λ (v : Screen). others (λ w. w.number == named_by c.args.change.now) v.stack ≡ others (λ w. w.number == named_by c.args.change.now) c.in_ok-stack.stack) c.self.view_is
    (others_after c.args.change.now c.self.inside.layout.stack ∙ ap (λ (ws : List Window). others (λ w. w.number == named_by c.args.change.now) ws) (sym c.in_ok-stack.ensures)))

pub returns-in_err-restack-clause-steps : goal.returns-in_err-restack-clause-steps
returns-in_err-restack-clause-steps g c =
    subst (λ (ws : List Window). c.restack.new.steps ≤ c.args.steps.now + (8 * reached (λ w. w.number == named_by c.args.change.now) c.args.self.now.stack ws + 16)) (c.in_ok-stack.ensures ∙ ap (λ (v : Screen). stack_after c.args.change.now v.stack) c.self.view_is)
    (subst (λ (n : ℕ). c.restack.new.steps ≤ c.args.steps.now + (8 * reached (λ w. w.number == n) c.args.self.now.stack c.in_ok-stack.stack + 16)) c.window.ensures
    (change_cost c.window.result c.args.self.now.stack c.in_ok-stack.stack c.args.steps.now c.restack.new.steps (subst (λ (v : Screen). AreDistinct v.stack) c.self.view_is c.self.invariant.0.apart) c.arranged.ensures c.restack.ensures.steps))

pub returns-clause-steps : goal.returns-clause-steps
returns-clause-steps g c =
    subst (λ (ws : List Window). c.restack.new.steps ≤ c.args.steps.now + (8 * reached (λ w. w.number == named_by c.args.change.now) c.args.self.now.stack ws + 16)) (c.in_ok-stack.ensures ∙ ap (λ (v : Screen). stack_after c.args.change.now v.stack) c.self.view_is)
    (subst (λ (n : ℕ). c.restack.new.steps ≤ c.args.steps.now + (8 * reached (λ w. w.number == n) c.args.self.now.stack c.in_ok-stack.stack + 16)) c.window.ensures
    (change_cost c.window.result c.args.self.now.stack c.in_ok-stack.stack c.args.steps.now c.restack.new.steps (subst (λ (v : Screen). AreDistinct v.stack) c.self.view_is c.self.invariant.0.apart) c.arranged.ensures c.restack.ensures.steps))

pub returns-clause-refused : goal.returns-clause-refused
returns-clause-refused g c =
    let none : refusal c.args.change.now c.args.self.now.stack ≡ None = rw (← c.self.view_is) c.in_ok-at.ensures.ok in
    subst (λ (o : Option Refusal). IfSome o (λ _. c.restack.new.steps ≡ c.args.steps.now)) (sym none) tt

pub restack-requires-clause-moved : goal.restack-requires-clause-moved
restack-requires-clause-moved g c =
    subst (λ (o : Option ℕ). IfSome o (λ window. window < 65)) (sym c.moved.ensures) (moves_low c.args.change.now (placed_low (named_by c.args.change.now) c.in_ok-at.at c.self.inside.layout.stack c.in_ok-at.ensures.place c.self.invariant.0.ranged))

pub returns-clause-touched : goal.returns-clause-touched
returns-clause-touched g c =
    let none : refusal c.args.change.now c.args.self.now.stack ≡ None = rw (← c.self.view_is) c.in_ok-at.ensures.ok in
    let moved : c.moved.result ≡ moved_by c.args.change.now c.args.self.now.stack = c.moved.ensures ∙ ap (λ (why : Option Refusal). moves_unless why (moves c.args.change.now)) (sym none) in
    subst (λ (o : Option ℕ). IsTouched c.args.self.now (stack_after c.args.change.now c.args.self.now.stack) o c.in_ok-restack.field-0) moved
    (subst (λ (ws : List Window). IsTouched c.args.self.now ws c.moved.result c.in_ok-restack.field-0) (c.in_ok-stack.ensures ∙ ap (λ (v : Screen). stack_after c.args.change.now v.stack) c.self.view_is) c.in_ok-restack.ensures.touched)
