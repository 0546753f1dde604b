-- Lists of passes: new ones, those of one lock, and entries that begin with what each has seen.
use Rattle.std.proofs.Common.{◌≡◌, ℕ, zero, suc, ◌+◌, List, [], ◌∷◌, ◌++◌, length, sym, ap, ◌∙◌, subst, arith, ⊎_elim, length-append}
use mathlib.Core.Option.{some-injective, some-ne-none}
use lib.ListN.{get_elem?}
use Rattle.dri_hwlock.specs.declared.guarded.Guarded.{Ghosts}
use Rattle.dri_hwlock.specs.declared.tokens.Pass.{Pass}
use Rattle.dri_hwlock.specs.Entries.{StartsWith, StartsWithEach}
use Rattle.dri_hwlock.specs.Tokens.{LockId, pass_token, new_token, left_lightly, AreNew, AllOfLock, BeginsWithEach}
use Rattle.dri_hwlock.proofs.Lists.{at_end, at_before, at_length}

module _ {G B E : Type 0} {g : Ghosts G B E} where
  -- the pass is new, with this context
  abbrev pub IsNew : LockId → B → ℕ → Pass G B E g → Type 0
  IsNew id b context p = (pass_token p ≡ new_token id b context) × (left_lightly p ≡ 0)

  pub snoc_new : (id : LockId) (b : B) (from n : ℕ) (ps : List (Pass G B E g)) (p : Pass G B E g) → AreNew id b from ps → length ps + from ≡ n → IsNew id b n p → AreNew id b from (ps ++ p ∷ [])
  snoc_new id b from n ps p all long one k q e = ⊎_elim (λ t. all k q t) (λ (t : (p ≡ q) × (k ≡ length ps)). let at : n ≡ k + from = sym long ∙ ap (λ (x : ℕ). x + from) (sym t.1) in subst (λ (x : ℕ × Pass G B E g). IsNew id b x.0 x.1) (λ i. (at i, t.0 i)) one) (at_end ps p q k e)

  pub cons_new : (id : LockId) (b : B) (ps : List (Pass G B E g)) (p : Pass G B E g) → AreNew id b 2 ps → IsNew id b 1 p → AreNew id b 1 (p ∷ ps)
  cons_new id b ps p all one zero q e = subst (IsNew id b 1) (some-injective p q e) one
  cons_new id b ps p all one (suc k) q e = let at : k + 2 ≡ suc k + 1 = omega arith in subst (λ (x : ℕ). IsNew id b x q) at (all k q e)

  -- the last of some new passes, and the others
  pub last_new : (id : LockId) (b : B) (from n : ℕ) (all ps : List (Pass G B E g)) (p : Pass G B E g) → all ≡ ps ++ p ∷ [] → length all ≡ suc n → AreNew id b from all → IsNew id b (n + from) p × AreNew id b from ps × (length ps ≡ n)
  last_new id b from n all ps p e long all_new = let l : length ps ≡ n = omega (arith, ap length e, length-append ps (p ∷ [])) in (
    subst (λ (x : ℕ). IsNew id b (x + from) p) l (all_new (length ps) p (ap (λ t. get_elem? t (length ps)) e ∙ at_length ps p)),
    (λ k q at. all_new k q (ap (λ t. get_elem? t k) e ∙ at_before ps (p ∷ []) k q at)),
    l,
  )

  -- new passes are all of their lock
  pub new_of_lock : (id : LockId) (b : B) (from : ℕ) (ps : List (Pass G B E g)) → AreNew id b from ps → AllOfLock id ps
  new_of_lock id b from ps all k p at = ap (λ t. t.lock) (all k p at).0

  pub snoc_of_lock : (id : LockId) (ps : List (Pass G B E g)) (p : Pass G B E g) → AllOfLock id ps → (pass_token p).lock ≡ id → AllOfLock id (ps ++ p ∷ [])
  snoc_of_lock id ps p all one k q at = ⊎_elim (λ t. all k q t) (λ (t : (p ≡ q) × (k ≡ length ps)). ap (λ x. (pass_token x).lock) (sym t.0) ∙ one) (at_end ps p q k at)

  pub some_of_lock : (id : LockId) (all ps qs : List (Pass G B E g)) → all ≡ ps ++ qs → AllOfLock id all → AllOfLock id ps
  some_of_lock id all ps qs e of k p at = of k p (ap (λ (l : List (Pass G B E g)). get_elem? l k) e ∙ at_before ps qs k p at)

  pub last_of_lock : (id : LockId) (all ps : List (Pass G B E g)) (p : Pass G B E g) → all ≡ ps ++ p ∷ [] → AllOfLock id all → (pass_token p).lock ≡ id
  last_of_lock id all ps p e of = of (length ps) p (ap (λ (l : List (Pass G B E g)). get_elem? l (length ps)) e ∙ at_length ps p)

  pub begins_more : (entries : List E) (all ps : List (Pass G B E g)) (p : Pass G B E g) → all ≡ ps ++ p ∷ [] → StartsWith entries (pass_token p).seen → BeginsWithEach entries ps → BeginsWithEach entries all
  begins_more entries all ps p e one some_begin k q at = ⊎_elim (λ t. some_begin k q t) (λ (t : (p ≡ q) × (k ≡ length ps)). subst (λ (x : Pass G B E g). StartsWith entries (pass_token x).seen) t.0 one) (at_end ps p q k (ap (λ (l : List (Pass G B E g)). get_elem? l k) (sym e) ∙ at))

  pub begins_none : (entries : List E) (ps : List (Pass G B E g)) → length ps ≡ 0 → BeginsWithEach entries ps
  begins_none entries [] e k p at = absurd (some-ne-none p (sym at))
  begins_none entries (q ∷ qs) e k p at = absurd (omega arith)

pub each_first : {E : Type 0} (entries : List E) (ts us : List (List E)) → StartsWithEach entries (ts ++ us) → StartsWithEach entries ts × StartsWithEach entries us
each_first entries [] us e = (tt, e)
each_first entries (t ∷ ts) us e = let r = each_first entries ts us e.1 in ((e.0, r.0), r.1)
