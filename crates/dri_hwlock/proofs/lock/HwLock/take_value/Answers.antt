use Rattle.std.proofs.Common.{rules, arith, ap, sym, ◌∙◌, Some, ⊎_elim, inl, inr}
use Rattle.dri_hwlock.specs.Views.{is_outside}
use Rattle.dri_hwlock.proofs.Keeps.{load_keeps, take_keeps}
use Rattle.dri_hwlock.proofs.Seats.{is_empty_handed, in_hand}
use Rattle.dri_hwlock.proofs.lock.HwLock.take_value.Goals as goal

pub load-loaded-requires : goal.load-loaded-requires
load-loaded-requires g c = let G = g.G.Guarded in (search rules, search rules, load_keeps G.base_of G.entries_of G.context_of G.closer_of _ _ _ _ _)

pub returns-then-loaded-ge-HELD-clause-empty : goal.returns-then-loaded-ge-HELD-clause-empty
returns-then-loaded-ge-HELD-clause-empty g c = is_empty_handed _ (ap (λ n. n.1) c.load-loaded.ensures.2.1 ∙ ap (λ s. s.me.1) c.requires.empty)

pub compare_exchange-found-requires : goal.compare_exchange-found-requires
compare_exchange-found-requires g c = let G = g.G.Guarded in let e = c.load-loaded.ensures.2.1 in let b = is_empty_handed c.load-loaded.new.seat (ap (λ n. n.1) e ∙ ap (λ s. s.me.1) c.requires.empty) in
    let low = c.if-loaded-ge-HELD.false in let same = ap (λ n. n.0.context) e in
    (search rules, search rules, take_keeps G.base_of G.entries_of G.context_of G.closer_of _ _ _ _ _ _ _ c.args.name (ap (λ s. s.me) b) (omega arith) (search rules) (⊎_elim (λ h. inl (h ∙ sym same)) inr c.requires.name) (ap (λ n. is_outside n.0.stage) e ∙ c.requires.outside))

pub exchange-requires : goal.exchange-requires
exchange-requires g c = let t = c.compare_exchange-found.ensures.2.1 c.if-found-loaded.true in (search rules, (Some t.0, in_hand _ _ _ (ap (λ n. n.1) t.1)))

pub returns-else-found-loaded-clause-empty : goal.returns-else-found-loaded-clause-empty
returns-else-found-loaded-clause-empty g c =
    is_empty_handed _ (ap (λ n. n.1) (c.compare_exchange-found.ensures.2.2 c.if-found-loaded.false) ∙ (ap (λ n. n.1) c.load-loaded.ensures.2.1 ∙ ap (λ s. s.me.1) c.requires.empty))
