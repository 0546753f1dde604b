-- What a change does to stamps and clips.
use Rattle.std.proofs.Common.{◌≡◌, ◌<◌, ◌≤◌, ◌+◌, ◌-◌, ℕ, zero, suc, List, Bool, true, false, arith, refl, sym, subst}
use Rattle.std.specs.Prelude.{nat_lt}
use Rattle.std.specs.Ordering.{int_eq}
use Rattle.std.proofs.lemmas.Bool.{and_parts, true≢false, not-false}
use Rattle.std.proofs.lemmas.Bool.Decides.{nat_tests, Decides-int_eq}
use Rattle.dri_base.specs.declared.scene.Window.{Window}
use Rattle.dri_model.specs.Stacks.{clips, origin, same_bool, same_set, same_origin, is_touched}
use Rattle.dri_model.specs.Counting.{all_below, how_many}

pub same_bool_is : (a b : Bool) → same_bool a b ≡ true → a ≡ b
same_bool_is true true e = refl
same_bool_is false false e = refl
same_bool_is true false e = absurd (true≢false (sym e))
same_bool_is false true e = absurd (true≢false (sym e))

pub all_below_at : (p : ℕ → Bool) (n k : ℕ) → all_below p n ≡ true → k < n → p k ≡ true
all_below_at p zero k e lt = absurd (omega arith)
all_below_at p (suc n) k e lt = grind (arith, nat_tests, all_below_at p n k)

pub same_set_at : (width height : ℕ) (f g : ℕ → ℕ → Bool) (x y : ℕ) → same_set width height f g ≡ true → x < width → y < height → f x y ≡ g x y
same_set_at width height f g x y e lx ly =
    same_bool_is _ _ (all_below_at (λ y. same_bool (f x y) (g x y)) height y (all_below_at (λ x. all_below (λ y. same_bool (f x y) (g x y)) height) width x e lx) ly)

-- where a window isn't touched, its clips and its origin are as before
pub clips_kept : (width height : ℕ) (old new : List Window) (n x y : ℕ) → is_touched width height old new n ≡ false → clips width height new n x y ≡ clips width height old n x y
clips_kept width height old new n x y e = inside (nat_lt x width) (nat_lt y height) refl refl
  where
    same : same_set width height (clips width height old n) (clips width height new n) ≡ true
    same = (and_parts _ _ (not-false _ e)).0

    inside : (a b : Bool) → nat_lt x width ≡ a → nat_lt y height ≡ b → clips width height new n x y ≡ clips width height old n x y
    inside true true p q = sym (same_set_at width height (clips width height old n) (clips width height new n) x y same (grind (arith, nat_tests)) (grind (arith, nat_tests)))
    inside true false p q = rw (p, q) refl
    inside false b p q = rw p refl

pub origin_kept : (width height : ℕ) (old new : List Window) (n : ℕ) → is_touched width height old new n ≡ false → origin new n ≡ origin old n
origin_kept width height old new n e = both
  where
    parts : (int_eq (origin old n).0 (origin new n).0 ≡ true) × (int_eq (origin old n).1 (origin new n).1 ≡ true)
    parts = and_parts (int_eq (origin old n).0 (origin new n).0) (int_eq (origin old n).1 (origin new n).1) (and_parts (same_set width height (clips width height old n) (clips width height new n)) (same_origin (origin old n) (origin new n)) (not-false _ e)).1

    left : (origin new n).0 ≡ (origin old n).0
    left = sym ((Decides-int_eq _ _).0 parts.0)

    right : (origin new n).1 ≡ (origin old n).1
    right = sym ((Decides-int_eq _ _).0 parts.1)

    both : origin new n ≡ origin old n
    both = λ i. (left i, right i)

pub how_many_grows : (p : ℕ → Bool) (n : ℕ) → how_many p n ≤ how_many p (n + 1)
how_many_grows p n = grind arith

pub how_many_at : (p : ℕ → Bool) (n : ℕ) → p n ≡ true → 0 < how_many p (n + 1)
how_many_at p n e = grind arith

pub how_many_below : (p : ℕ → Bool) (n k : ℕ) → how_many p n ≤ how_many p (k + n)
how_many_below p n zero = let e : 0 + n ≡ n = omega arith in rw e (omega arith)
how_many_below p n (suc k) = up (p (k + n)) refl (how_many_below p n k)
  where
    up : (b : Bool) → p (k + n) ≡ b → how_many p n ≤ how_many p (k + n) → how_many p n ≤ how_many p (suc k + n)
    up b e h = grind (arith, how_many_grows p (k + n))

-- a new stamp is above the old counter, and not above the new one
pub stamp_bounded : (p : ℕ → Bool) (n : ℕ) → n < 65 → how_many p (n + 1) ≤ how_many p 65
stamp_bounded p n l = let e : 65 ≡ (64 - n) + (n + 1) = omega arith in subst (λ k. how_many p (n + 1) ≤ how_many p k) (sym e) (how_many_below p (n + 1) (64 - n))
