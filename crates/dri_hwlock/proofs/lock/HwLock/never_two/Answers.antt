use Rattle.std.proofs.Common.{rules, arith, ap, ◌≡◌, ◌∙◌, ℕ}
use Rattle.dri_hwlock.specs.Views.{is_in_hold}
use Rattle.dri_hwlock.proofs.Keeps.{one_holder, no_seat}
use Rattle.dri_hwlock.proofs.lock.HwLock.never_two.Goals as goal

pub join_seat-requires : goal.join_seat-requires
join_seat-requires g c = let G = g.G.Guarded in let e = c.exchange-empty.ensures.3 in let home = c.put_home-other.ensures.home in (
  search rules,
  c.put_home-other.ensures.own ∙ c.requires.second,
  ap (λ m. m.1) home,
  search rules,
  one_holder G.base_of G.entries_of G.context_of G.closer_of _ _ _ _ _ _ _ _ (ap (λ m. is_in_hold m.0.stage) e ∙ ap (λ s. is_in_hold s.me.0.stage) c.args.first.grip.holds) (ap (λ m. is_in_hold m.0.stage) home),
)

pub load-requires : goal.load-requires
load-requires g c = let G = g.G.Guarded in let e = c.join_seat.ensures.2 in (
  search rules,
  search rules,
  no_seat G.base_of G.entries_of G.context_of G.closer_of _ _ _ _ _ (ap (λ m. m.0) e),
)

pub unreachable-requires-2 : goal.unreachable-requires-2
unreachable-requires-2 g c = absurd (let e : ◌≡◌ {A = ℕ} 0 1 = c.load.ensures.2 in omega arith)
