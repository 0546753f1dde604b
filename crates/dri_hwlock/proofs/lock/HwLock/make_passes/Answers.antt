use Rattle.std.proofs.Common.{rules, arith, ap, sym, ◌∙◌, refl, ◌+◌}
use Rattle.dri_hwlock.specs.Views.{is_at_rest, is_left_lightly, with_seat_made, next_view}
use Rattle.dri_hwlock.proofs.Keeps.{split_keeps}
use Rattle.dri_hwlock.proofs.Seats.{is_empty_handed}
use Rattle.dri_hwlock.proofs.PassLists.{snoc_new, cons_new}
use Rattle.dri_hwlock.proofs.TokenLaws.{same_token}
use Rattle.dri_hwlock.proofs.lock.HwLock.make_passes.Goals as goal

pub split_seat-seat-requires : goal.split_seat-seat-requires
split_seat-seat-requires g c = let G = g.G.Guarded in let inv = c.loop-i.invariant.1 in let made = ap (λ m. m.0.seats_made) inv in let all = ap (λ m. m.0.passes) inv in let more = c.loop-i-test.true in
    (search rules, search rules, split_keeps G.base_of G.entries_of G.context_of G.closer_of _ _ _ _ (ap (λ m. m.0.context) inv) (ap (λ m. is_at_rest m.0.stage) inv) (omega arith))

pub invariant_of-push_reserved : goal.invariant_of-push_reserved
invariant_of-push_reserved g c = let inv = c.loop-i.invariant.1 in let e = c.split_seat-seat.ensures.4 in record {
  empty = is_empty_handed _ (ap (λ m. m.1) e);
  at_rest = ap (λ m. is_at_rest m.0.stage) e;
  of = sym (ap (λ m. m.0.context) e ∙ ap (λ m. m.0.seats_made + 1) inv);
}

pub loop-i-preserved : goal.loop-i-preserved
loop-i-preserved g c = let inv = c.loop-i.invariant in let e = c.split_seat-seat.ensures in let made = ap (λ m. m.0) e.4 ∙ ap (λ m. next_view m.0) inv.1 in (
  e.0 ∙ inv.0,
  e.2 ∙ ap (λ m. (with_seat_made m.0, m.1)) inv.1,
  search rules,
  search rules,
  rw (c.push_reserved.ensures.items) (snoc_new _ _ 2 (c.loop-i.i + 1) _ _ inv.4 (search rules) (same_token _ _ _ _ _ _ (e.3 ∙ inv.0) refl made, ap (λ v. is_left_lightly v.stage) made)),
)

pub invariant_of-pass : goal.invariant_of-pass
invariant_of-pass g c = let inv = c.loop-i.invariant.1 in record {
  empty = is_empty_handed _ (ap (λ m. m.1) inv);
  at_rest = ap (λ m. is_at_rest m.0.stage) inv;
  of = sym (ap (λ m. m.0.context) inv);
}

pub returns-clause-passes : goal.returns-clause-passes
returns-clause-passes g c = let inv = c.loop-i.invariant in let items = c.in-Ok.ensures.items in
    rw items (cons_new _ _ _ _ inv.4 (same_token _ _ _ _ _ _ inv.0 refl (ap (λ m. m.0) inv.1), ap (λ m. is_left_lightly m.0.stage) inv.1))

pub returns-clause-count : goal.returns-clause-count
returns-clause-count g c = let inv = c.loop-i.invariant in let items = c.in-Ok.ensures.items in let more = c.loop-i-test.false in let near = c.loop-i.auto.i-end (search rules) in let long = inv.2 in search rules
