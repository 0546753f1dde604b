use Rattle.std.proofs.Common.{rules, arith, ap, ◌∙◌}
use Rattle.dri_hwlock.specs.Views.{is_outside}
use Rattle.dri_hwlock.proofs.Keeps.{load_keeps, mark_keeps}
use Rattle.dri_hwlock.proofs.Seats.{is_empty_handed}
use Rattle.dri_hwlock.proofs.lock.HwLock.mark_word.Goals as goal

pub load-loaded-requires : goal.load-loaded-requires
load-loaded-requires g c = let G = g.G.Guarded in (search rules, search rules, load_keeps G.base_of G.entries_of G.context_of G.closer_of _ _ _ _ _)

pub returns-then-loaded-lt-HELD-clause-empty : goal.returns-then-loaded-lt-HELD-clause-empty
returns-then-loaded-lt-HELD-clause-empty g c = is_empty_handed _ (ap (λ n. n.1) c.load-loaded.ensures.2.1 ∙ ap (λ s. s.me.1) c.requires.empty)

pub returns-then-loaded-clause-empty : goal.returns-then-loaded-clause-empty
returns-then-loaded-clause-empty g c = is_empty_handed _ (ap (λ n. n.1) c.load-loaded.ensures.2.1 ∙ ap (λ s. s.me.1) c.requires.empty)

pub compare_exchange-found-requires : goal.compare_exchange-found-requires
compare_exchange-found-requires g c = let G = g.G.Guarded in let e = c.load-loaded.ensures.2.1 in let b = is_empty_handed c.load-loaded.new.seat (ap (λ n. n.1) e ∙ ap (λ s. s.me.1) c.requires.empty) in
    let low = c.if-loaded-lt-HELD.false in let high = c.if-loaded.false in
    (search rules, search rules, mark_keeps G.base_of G.entries_of G.context_of G.closer_of _ _ _ _ _ _ _ (ap (λ s. s.me) b) (omega arith) (omega arith) (omega arith) (ap (λ n. is_outside n.0.stage) e ∙ c.requires.outside))

pub returns-then-found-loaded-clause-empty : goal.returns-then-found-loaded-clause-empty
returns-then-found-loaded-clause-empty g c = is_empty_handed _ (ap (λ n. n.1) (c.compare_exchange-found.ensures.2.1 c.if-found-loaded.true) ∙ (ap (λ n. n.1) c.load-loaded.ensures.2.1 ∙ ap (λ s. s.me.1) c.requires.empty))

pub returns-else-found-loaded-clause-empty : goal.returns-else-found-loaded-clause-empty
returns-else-found-loaded-clause-empty g c = is_empty_handed _ (ap (λ n. n.1) (c.compare_exchange-found.ensures.2.2 c.if-found-loaded.false) ∙ (ap (λ n. n.1) c.load-loaded.ensures.2.1 ∙ ap (λ s. s.me.1) c.requires.empty))
