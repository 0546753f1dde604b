use Rattle.std.proofs.Common.{◌≡◌, ◌≤◌, ◌∙◌, ℕ, None, Some, false, length, pos, ap, arith, subst, sym}
use Rattle.dri_base.specs.declared.state.State.{State}
use Rattle.dri_core.specs.Phases.{first_phase}
use Rattle.dri_texheap.specs.RegionStates.{IsInside}
use Rattle.dri_texheap.proofs.Losing.{each_none}
use Rattle.dri_client.specs.Kept.{GoesOn}
use Rattle.dri_client.proofs.Keeping.{opened_goes}
use Rattle.dri_client.proofs.part.ClientPart.new.Goals as goal

none_level : (k level : ℕ) → None ≡ Some level → ⊥
none_level k level e = grind arith

pub returns-clause-part : goal.returns-clause-part
returns-clause-part c = λ i. record {
  place = 1;
  phase = (c.first.ensures ∙ ap first_phase c.as_slice.ensures) i;
  stamp = 0;
  copy = λ x y. false;
  origin = (pos 0, pos 0);
  state = c.new-2.ensures.state i;
  dirty = c.new-2.ensures.dirty i;
  placed = c.in_ok-placed.ensures.placed i;
  levels = c.in_ok-placed.ensures.levels i;
  local = 0;
}

pub returns-clause-kept : goal.returns-clause-kept
returns-clause-kept c = λ n. record {
  started = omega arith;
  within = omega arith;
  more = subst (λ p. GoesOn p 1 (length c.args.script.now.commands)) (sym (c.first.ensures ∙ ap first_phase c.as_slice.ensures)) (opened_goes c.args.script.now.commands);
  bound = λ t is. absurd (let none = ap (λ (x : State). x.bound) c.new-2.ensures.state in cc);
  inside = record {
    placed = each_none (λ spot. IsInside n spot.run) _ c.in_ok-placed.ensures.placed;
    shared = λ k level e. absurd (none_level k level (sym (ap (λ f. f k) c.in_ok-placed.ensures.levels) ∙ e));
  };
  blocks = each_none (λ spot. spot.block ≤ 1024) _ c.in_ok-placed.ensures.placed;
}
