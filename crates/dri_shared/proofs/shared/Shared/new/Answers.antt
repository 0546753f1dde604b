-- The opening.
use Rattle.std.proofs.Common.{◌∙◌, ℕ, replicate, ap}
use Rattle.std.specs.Arc.{arc_value}
use Rattle.std.proofs.lemmas.List.{get_or-replicate, length-replicate}
use Rattle.dri_base.specs.declared.scene.Scene.{Scene}
use Rattle.dri_shared.proofs.Opening.{opened}
use Rattle.dri_shared.proofs.shared.Shared.new.Goals as goal

pub invariant_of-result : goal.invariant_of-result
invariant_of-result c = let s = arc_value c.args.scene in
    rw c.new-3.ensures.items (opened s c.in_ok-card.card c.in_ok-board.board c.new-regions.result (replicate 33 1) c.requires (rw c.deref.ensures at c.in_ok-card.ensures) (rw c.deref-2.ensures at c.in_ok-board.ensures)
    c.new-regions.ensures.heap (c.new-regions.ensures.count ∙ ap (λ (t : Scene). t.regions) c.deref-3.ensures) (length-replicate {A = ℕ} 33 1) (λ k lt. get_or-replicate {A = ℕ} 33 k 1 0 lt))
