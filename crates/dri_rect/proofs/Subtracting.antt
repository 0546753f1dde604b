-- The difference and the intersection of two rows.
use Rattle.std.proofs.Common.{◌≡◌, List, length, [], ◌∷◌, ◌++◌, Bool, true, false, arith, refl, sym, ◌∙◌, inl, inr, ap, subst, append-nil}
use Rattle.std.specs.Prelude.{ℤ, ◌<ℤ◌, ◌≤ℤ◌, ◌⊎◌, ◌&&◌, ◌||◌, not, int_lt, int_le}
use Rattle.std.specs.List.{AllByRecursion}
use Rattle.std.proofs.lemmas.Int.{ints, by_lt_z}
use Rattle.std.proofs.lemmas.Bool.{true≢false}
use Rattle.std.proofs.Math.Bool.{and-false, or-false, or_assoc}
use Rattle.dri_base.specs.declared.shape.Rect.{Rect}
use Rattle.dri_rect.specs.Pixels.{in_columns, least}
use Rattle.dri_rect.specs.Walk.{row, IsRow, lesser_of, greater_of, columns, put, Added, From, Beyond, Subtracting, Intersecting}
use Rattle.dri_rect.proofs.Numbers.{least_both, most_both, low_first, low_second, high_first, high_second, mixed}
use Rattle.dri_rect.proofs.RowWalks.{rest_row, all_weaker, all_append, row_append, row_columns, row_put, put_items, row_none, left_of}

-- a piece put last, which ends where this holds
put_before : (P : ℤ → Type 0) (fresh : List Rect) (a b : ℤ) → AllByRecursion (λ r. P r.x2) fresh → P b → AllByRecursion (λ r. P r.x2) (fresh ++ columns a b)
put_before P fresh a b before last = all_append (λ r. P r.x2) fresh (columns a b) before (one (int_lt a b) refl)
  where
    one : (k : Bool) → int_lt a b ≡ k → AllByRecursion (λ r. P r.x2) (columns a b)
    one true h = rw h (last, tt)
    one false h = rw h tt

-- where the difference begins
reached : (rs : List Rect) → IsRow rs → AllByRecursion (λ s. least ≤ℤ s.x2) rs
reached [] i = tt
reached (r ∷ rs) i = (omega (arith, ints, i.fits.0.left, i.apart.0), reached rs (rest_row r rs i))

pub subtract_start : (a b old : List Rect) (t u : ℤ) → IsRow a → IsRow b → Subtracting a b a b old old t u least
subtract_start a b old t u i j = record {
  fresh = [];
  items = sym (append-nil old);
  is_row = record { apart = tt; fits = tt };
  before = tt;
  low = omega (arith, ints);
  first_row = i;
  second_row = j;
  reach = reached b j;
  right = λ z. by_lt_z z least (λ h. rw (left_of a z i.fits h, and-false (int_le least z)) refl) (λ h. let k : int_le least z ≡ true = grind (arith, ints) in rw k refl);
}

-- the first rectangle's columns from x on
piece : (r : Rect) (x e z : ℤ) → (int_le (greater_of x r.x1) z && int_lt z e) ≡ ((int_le x z && int_le r.x1 z) && int_lt z e)
piece r x e z = grind (arith, ints)

-- the columns from x on, or the first rectangle's begin, are behind what is written
ahead_of : (r : Rect) (rs : List Rect) (x : ℤ) (fresh : List Rect) → AllByRecursion (λ s. (s.x2 <ℤ x) ⊎ Beyond (r ∷ rs) s.x2) fresh → AllByRecursion (λ s. s.x2 <ℤ greater_of x r.x1) fresh
ahead_of r rs x fresh a = all_weaker _ _ fresh by a
  where
    by : (s : Rect) → (s.x2 <ℤ x) ⊎ Beyond (r ∷ rs) s.x2 → s.x2 <ℤ greater_of x r.x1
    by s (inl l) = omega (arith, ints, l, high_first x r.x1)
    by s (inr l) = omega (arith, ints, l.0, high_second x r.x1)

from_low : (x a : ℤ) → least ≤ℤ x → least ≤ℤ greater_of x a
from_low x a l = grind (arith, ints)

keep : (x y : ℤ) (rs ss : List Rect) (fresh : List Rect) → x ≤ℤ y → ((n : ℤ) → Beyond rs n → Beyond ss n) → AllByRecursion (λ s. (s.x2 <ℤ x) ⊎ Beyond rs s.x2) fresh → AllByRecursion (λ s. (s.x2 <ℤ y) ⊎ Beyond ss s.x2) fresh
keep x y rs ss fresh l f a = all_weaker _ _ fresh by a
  where
    by : (s : Rect) → (s.x2 <ℤ x) ⊎ Beyond rs s.x2 → (s.x2 <ℤ y) ⊎ Beyond ss s.x2
    by s (inl p) = inl (omega (arith, ints, p, l))
    by s (inr p) = inr (f s.x2 p)

-- the first rectangle is whole, as far as it isn't passed
pub subtract_whole : (one other old out : List Rect) (t u x : ℤ) (r : Rect) (rs second : List Rect) → Subtracting one other (r ∷ rs) second old out t u x → From second r.x2
    → Subtracting one other rs second old (put out t u (greater_of x r.x1) r.x2) t u x
subtract_whole one other old out t u x r rs second w f = record {
  fresh = w.fresh ++ columns (greater_of x r.x1) r.x2;
  items = put_items old out w.fresh t u (greater_of x r.x1) r.x2 w.items;
  is_row = row_put w.fresh (greater_of x r.x1) r.x2 w.is_row (ahead_of r rs x w.fresh w.before) (from_low x r.x1 w.low) w.first_row.fits.0.right;
  before = put_before (λ e. (e <ℤ x) ⊎ Beyond rs e) w.fresh (greater_of x r.x1) r.x2 (keep x x (r ∷ rs) rs w.fresh (omega (arith, ints)) (λ n b. b.1) w.before) (inr w.first_row.apart.1);
  low = w.low;
  first_row = rest_row r rs w.first_row;
  second_row = w.second_row;
  reach = w.reach;
  right = λ z. rw (row_append w.fresh (columns (greater_of x r.x1) r.x2) z, row_columns (greater_of x r.x1) r.x2 z, piece r x r.x2 z) (or_assoc (row w.fresh z) _ _ ∙ (ap (λ k. row w.fresh z || k) (sum z) ∙ w.right z));
}
  where
    free : (z : ℤ) → z <ℤ r.x2 → (ss : List Rect) → From ss r.x2 → row ss z ≡ false
    free z h [] f = refl
    free z h (s ∷ ss) f = let k : in_columns s z ≡ false = none s f.0 in rw k (free z h ss f.1)
      where
        none : (s : Rect) → r.x2 ≤ℤ s.x1 → in_columns s z ≡ false
        none s l = grind (arith, ints)

    within : (a b m n : Bool) → n ≡ false → (((a && b) && true) || ((a && m) && not n)) ≡ ((a && ((b && true) || m)) && not n)
    within true true m n e = rw e refl
    within true false m n e = refl
    within false b m n e = refl

    behind : (a b m n : Bool) → (((a && b) && false) || ((a && m) && not n)) ≡ ((a && ((b && false) || m)) && not n)
    behind true true m n = refl
    behind true false m n = refl
    behind false b m n = refl

    sum : (z : ℤ) → (((int_le x z && int_le r.x1 z) && int_lt z r.x2) || ((int_le x z && row rs z) && not (row second z))) ≡ ((int_le x z && (in_columns r z || row rs z)) && not (row second z))
    sum z = by_lt_z z r.x2 (λ h. let k : int_lt z r.x2 ≡ true = grind (arith, ints) in rw k (within (int_le x z) (int_le r.x1 z) (row rs z) (row second z) (free z h second f)))
        (λ h. let k : int_lt z r.x2 ≡ false = grind (arith, ints) in rw k (behind (int_le x z) (int_le r.x1 z) (row rs z) (row second z)))

-- the picture where the second's first rectangle s begins before the first's r ends: up to s, in it, and behind it
cut_picture : (r s : Rect) (rs ss : List Rect) (x z : ℤ) (L K : Bool) → IsRow (r ∷ rs) → IsRow (s ∷ ss) → x ≤ℤ s.x2 → s.x1 <ℤ r.x2
    → (s.x2 ≤ℤ z → (L && not K) ≡ (row (r ∷ rs) z && not (row (s ∷ ss) z)))
    → (((int_le x z && int_le r.x1 z) && int_lt z s.x1) || ((int_le s.x2 z && L) && not K)) ≡ ((int_le x z && row (r ∷ rs) z) && not (row (s ∷ ss) z))
cut_picture r s rs ss x z L K i j reach early same = by_lt_z z s.x1 sooner (λ h. by_lt_z z s.x2 (inner h) later)
  where
    down : s.x1 <ℤ s.x2
    down = j.apart.0

    sooner : z <ℤ s.x1 → (((int_le x z && int_le r.x1 z) && int_lt z s.x1) || ((int_le s.x2 z && L) && not K)) ≡ ((int_le x z && row (r ∷ rs) z) && not (row (s ∷ ss) z))
    sooner h =
        let a : int_lt z s.x1 ≡ true = grind (arith, ints) in
        let b : int_le s.x2 z ≡ false = grind (arith, ints, down) in
        let c : int_le s.x1 z ≡ false = grind (arith, ints) in
        let d : int_lt z r.x2 ≡ true = grind (arith, ints, early) in
        let e : row rs z ≡ false = row_none rs r.x2 z i.apart.1 (omega (arith, ints, h, early)) in
        let f : row ss z ≡ false = row_none ss s.x2 z j.apart.1 (omega (arith, ints, h, down)) in
        rw (a, b, c, d, e, f) (shape (int_le x z) (int_le r.x1 z))
      where
        shape : (p q : Bool) → (((p && q) && true) || false) ≡ ((p && ((q && true) || false)) && true)
        shape true true = refl
        shape true false = refl
        shape false q = refl

    inner : s.x1 ≤ℤ z → z <ℤ s.x2 → (((int_le x z && int_le r.x1 z) && int_lt z s.x1) || ((int_le s.x2 z && L) && not K)) ≡ ((int_le x z && row (r ∷ rs) z) && not (row (s ∷ ss) z))
    inner g h =
        let a : int_lt z s.x1 ≡ false = grind (arith, ints) in
        let b : int_le s.x2 z ≡ false = grind (arith, ints) in
        let c : int_le s.x1 z ≡ true = grind (arith, ints) in
        let d : int_lt z s.x2 ≡ true = grind (arith, ints) in
        rw (a, b, c, d, and-false (int_le x z && int_le r.x1 z)) (sym (and-false (int_le x z && row (r ∷ rs) z)))

    later : s.x2 ≤ℤ z → (((int_le x z && int_le r.x1 z) && int_lt z s.x1) || ((int_le s.x2 z && L) && not K)) ≡ ((int_le x z && row (r ∷ rs) z) && not (row (s ∷ ss) z))
    later h =
        let a : int_lt z s.x1 ≡ false = grind (arith, ints, down) in
        let b : int_le s.x2 z ≡ true = grind (arith, ints) in
        let c : int_le x z ≡ true = grind (arith, ints, reach) in
        rw (a, b, c, and-false (int_le r.x1 z)) (same h)

cut_none : (r : Rect) (z : ℤ) → r.x2 ≤ℤ z → in_columns r z ≡ false
cut_none r z h = grind (arith, ints)

-- the second's first rectangle ends in the first's
pub subtract_inside : (one other old out : List Rect) (t u x : ℤ) (r s : Rect) (rs ss : List Rect) → Subtracting one other (r ∷ rs) (s ∷ ss) old out t u x → s.x1 <ℤ r.x2
    → Subtracting one other (r ∷ rs) ss old (put out t u (greater_of x r.x1) s.x1) t u s.x2
subtract_inside one other old out t u x r s rs ss w early = record {
  fresh = w.fresh ++ columns (greater_of x r.x1) s.x1;
  items = put_items old out w.fresh t u (greater_of x r.x1) s.x1 w.items;
  is_row = row_put w.fresh (greater_of x r.x1) s.x1 w.is_row (ahead_of r rs x w.fresh w.before) (from_low x r.x1 w.low) (omega (arith, ints, w.second_row.apart.0, w.second_row.fits.0.right));
  before = put_before (λ e. (e <ℤ s.x2) ⊎ Beyond (r ∷ rs) e) w.fresh (greater_of x r.x1) s.x1 (keep x s.x2 (r ∷ rs) (r ∷ rs) w.fresh w.reach.0 (λ n b. b) w.before) (inl w.second_row.apart.0);
  low = omega (arith, ints, w.low, w.reach.0);
  first_row = w.first_row;
  second_row = rest_row s ss w.second_row;
  reach = all_weaker _ _ ss (λ q a. omega (arith, ints, a.0, a.1)) (both ss w.second_row.apart.1 (rest_row s ss w.second_row));
  right = λ z. rw (row_append w.fresh (columns (greater_of x r.x1) s.x1) z, row_columns (greater_of x r.x1) s.x1 z, piece r x s.x1 z) (or_assoc (row w.fresh z) _ _ ∙ (ap (λ k. row w.fresh z || k) (cut_picture r s rs ss x z (row (r ∷ rs) z) (row ss z) w.first_row w.second_row w.reach.0 early (λ h. rw (cut_none s z h) refl)) ∙ w.right z));
}
  where
    both : (qs : List Rect) → AllByRecursion (λ q. s.x2 <ℤ q.x1) qs → IsRow qs → AllByRecursion (λ q. (s.x2 <ℤ q.x1) × (q.x1 <ℤ q.x2)) qs
    both [] a i = tt
    both (q ∷ qs) a i = ((a.0, i.apart.0), both qs a.1 (rest_row q qs i))

-- the first's ends in it, or with it
pub subtract_past : (one other old out : List Rect) (t u x : ℤ) (r s : Rect) (rs ss : List Rect) → Subtracting one other (r ∷ rs) (s ∷ ss) old out t u x → s.x1 <ℤ r.x2 → r.x2 ≤ℤ s.x2
    → Subtracting one other rs (s ∷ ss) old (put out t u (greater_of x r.x1) s.x1) t u s.x2
subtract_past one other old out t u x r s rs ss w early ends = record {
  fresh = w.fresh ++ columns (greater_of x r.x1) s.x1;
  items = put_items old out w.fresh t u (greater_of x r.x1) s.x1 w.items;
  is_row = row_put w.fresh (greater_of x r.x1) s.x1 w.is_row (ahead_of r rs x w.fresh w.before) (from_low x r.x1 w.low) (omega (arith, ints, w.second_row.apart.0, w.second_row.fits.0.right));
  before = put_before (λ e. (e <ℤ s.x2) ⊎ Beyond rs e) w.fresh (greater_of x r.x1) s.x1 (keep x s.x2 (r ∷ rs) rs w.fresh w.reach.0 (λ n b. b.1) w.before) (inl w.second_row.apart.0);
  low = omega (arith, ints, w.low, w.reach.0);
  first_row = rest_row r rs w.first_row;
  second_row = w.second_row;
  reach = (omega (arith, ints), all_weaker _ _ ss (λ q a. omega (arith, ints, a.0, a.1)) (both ss w.second_row.apart.1 (rest_row s ss w.second_row)));
  right = λ z. rw (row_append w.fresh (columns (greater_of x r.x1) s.x1) z, row_columns (greater_of x r.x1) s.x1 z, piece r x s.x1 z) (or_assoc (row w.fresh z) _ _ ∙ (ap (λ k. row w.fresh z || k) (cut_picture r s rs ss x z (row rs z) (row (s ∷ ss) z) w.first_row w.second_row w.reach.0 early (λ h. rw (cut_none r z (omega (arith, ints, h, ends))) refl)) ∙ w.right z));
}
  where
    both : (qs : List Rect) → AllByRecursion (λ q. s.x2 <ℤ q.x1) qs → IsRow qs → AllByRecursion (λ q. (s.x2 <ℤ q.x1) × (q.x1 <ℤ q.x2)) qs
    both [] a i = tt
    both (q ∷ qs) a i = ((a.0, i.apart.0), both qs a.1 (rest_row q qs i))

pub subtract_end : (one other first second old out : List Rect) (t u x : ℤ) → Subtracting one other first second old out t u x → length first ≡ 0
    → (t' u' : ℤ) → t ≡ t' → u ≡ u' → Added old out t' u' (λ z. row one z && not (row other z))
subtract_end one other (r ∷ rs) second old out t u x w n t' u' et eu = absurd (omega (arith, n))
subtract_end one other [] second old out t u x w n t' u' et eu = rw (sym et, sym eu) (record { fresh = w.fresh; items = w.items; is_row = w.is_row; right = λ z. sym (shape (row w.fresh z) (int_le x z) (row second z)) ∙ w.right z })
  where
    shape : (p q k : Bool) → (p || ((q && false) && not k)) ≡ p
    shape p true k = or-false p
    shape p false k = or-false p

-- where the intersection begins, and a piece of it
pub intersect_start : (a b old : List Rect) (t u : ℤ) → IsRow a → IsRow b → Intersecting a b a b old old t u
intersect_start a b old t u i j = record { fresh = []; items = sym (append-nil old); is_row = record { apart = tt; fits = tt }; before = tt; first_row = i; second_row = j; right = λ z. refl }

common : (r s : Rect) (z : ℤ) → (int_le (greater_of r.x1 s.x1) z && int_lt z (lesser_of r.x2 s.x2)) ≡ (in_columns r z && in_columns s z)
common r s z = rw (least_both r.x1 s.x1 z, most_both r.x2 s.x2 z) (mixed (int_le r.x1 z) (int_le s.x1 z) (int_lt z r.x2) (int_lt z s.x2))

ahead_both : (r s : Rect) (rs ss fresh : List Rect) → AllByRecursion (λ q. Beyond (r ∷ rs) q.x2 ⊎ Beyond (s ∷ ss) q.x2) fresh → AllByRecursion (λ q. q.x2 <ℤ greater_of r.x1 s.x1) fresh
ahead_both r s rs ss fresh a = all_weaker _ _ fresh by a
  where
    by : (q : Rect) → Beyond (r ∷ rs) q.x2 ⊎ Beyond (s ∷ ss) q.x2 → q.x2 <ℤ greater_of r.x1 s.x1
    by q (inl l) = omega (arith, ints, l.0, high_first r.x1 s.x1)
    by q (inr l) = omega (arith, ints, l.0, high_second r.x1 s.x1)

-- nothing is both in the rectangle that ends first and behind the other
ends_first : (r s : Rect) (ss : List Rect) (z : ℤ) → r.x2 ≤ℤ s.x2 → AllByRecursion (λ q. s.x2 <ℤ q.x1) ss → (in_columns r z && row ss z) ≡ false
ends_first r s ss z l a = by_lt_z z r.x2 (λ h. let k : row ss z ≡ false = row_none ss s.x2 z a (omega (arith, ints, h, l)) in rw k (and-false (in_columns r z))) (λ h. rw (cut_none r z h) refl)

drop_first : (i o m k : Bool) → (i && k) ≡ false → ((i && o) || (m && (o || k))) ≡ ((i || m) && (o || k))
drop_first true true true k e = refl
drop_first true true false k e = refl
drop_first true false true k e = rw e refl
drop_first true false false k e = sym e
drop_first false o m k e = refl

drop_second : (i o m k : Bool) → (o && m) ≡ false → ((i && o) || ((i || m) && k)) ≡ ((i || m) && (o || k))
drop_second true true m k e = refl
drop_second true false m k e = refl
drop_second false true true k e = absurd (true≢false e)
drop_second false true false k e = refl
drop_second false false m k e = refl

pub intersect_first : (one other old out : List Rect) (t u : ℤ) (r s : Rect) (rs ss : List Rect) → Intersecting one other (r ∷ rs) (s ∷ ss) old out t u → r.x2 ≤ℤ s.x2
    → Intersecting one other rs (s ∷ ss) old (put out t u (greater_of r.x1 s.x1) (lesser_of r.x2 s.x2)) t u
intersect_first one other old out t u r s rs ss w ends = record {
  fresh = w.fresh ++ columns (greater_of r.x1 s.x1) (lesser_of r.x2 s.x2);
  items = put_items old out w.fresh t u (greater_of r.x1 s.x1) (lesser_of r.x2 s.x2) w.items;
  is_row = row_put w.fresh (greater_of r.x1 s.x1) (lesser_of r.x2 s.x2) w.is_row (ahead_both r s rs ss w.fresh w.before) (omega (arith, ints, w.first_row.fits.0.left, high_first r.x1 s.x1)) (omega (arith, ints, w.first_row.fits.0.right, low_first r.x2 s.x2));
  before = put_before (λ e. Beyond rs e ⊎ Beyond (s ∷ ss) e) w.fresh (greater_of r.x1 s.x1) (lesser_of r.x2 s.x2) (all_weaker _ _ w.fresh by w.before) (inl (all_weaker _ _ rs (λ q l. omega (arith, ints, l, low_first r.x2 s.x2)) w.first_row.apart.1));
  first_row = rest_row r rs w.first_row;
  second_row = w.second_row;
  right = λ z. rw (row_append w.fresh (columns (greater_of r.x1 s.x1) (lesser_of r.x2 s.x2)) z, row_columns (greater_of r.x1 s.x1) (lesser_of r.x2 s.x2) z, common r s z)
      (or_assoc (row w.fresh z) _ _ ∙ (ap (λ k. row w.fresh z || k) (drop_first (in_columns r z) (in_columns s z) (row rs z) (row ss z) (ends_first r s ss z ends w.second_row.apart.1)) ∙ w.right z));
}
  where
    by : (q : Rect) → Beyond (r ∷ rs) q.x2 ⊎ Beyond (s ∷ ss) q.x2 → Beyond rs q.x2 ⊎ Beyond (s ∷ ss) q.x2
    by q (inl l) = inl l.1
    by q (inr l) = inr l

pub intersect_second : (one other old out : List Rect) (t u : ℤ) (r s : Rect) (rs ss : List Rect) → Intersecting one other (r ∷ rs) (s ∷ ss) old out t u → s.x2 ≤ℤ r.x2
    → Intersecting one other (r ∷ rs) ss old (put out t u (greater_of r.x1 s.x1) (lesser_of r.x2 s.x2)) t u
intersect_second one other old out t u r s rs ss w ends = record {
  fresh = w.fresh ++ columns (greater_of r.x1 s.x1) (lesser_of r.x2 s.x2);
  items = put_items old out w.fresh t u (greater_of r.x1 s.x1) (lesser_of r.x2 s.x2) w.items;
  is_row = row_put w.fresh (greater_of r.x1 s.x1) (lesser_of r.x2 s.x2) w.is_row (ahead_both r s rs ss w.fresh w.before) (omega (arith, ints, w.first_row.fits.0.left, high_first r.x1 s.x1)) (omega (arith, ints, w.first_row.fits.0.right, low_first r.x2 s.x2));
  before = put_before (λ e. Beyond (r ∷ rs) e ⊎ Beyond ss e) w.fresh (greater_of r.x1 s.x1) (lesser_of r.x2 s.x2) (all_weaker _ _ w.fresh by w.before) (inr (all_weaker _ _ ss (λ q l. omega (arith, ints, l, low_second r.x2 s.x2)) w.second_row.apart.1));
  first_row = w.first_row;
  second_row = rest_row s ss w.second_row;
  right = λ z. rw (row_append w.fresh (columns (greater_of r.x1 s.x1) (lesser_of r.x2 s.x2)) z, row_columns (greater_of r.x1 s.x1) (lesser_of r.x2 s.x2) z, common r s z)
      (or_assoc (row w.fresh z) _ _ ∙ (ap (λ k. row w.fresh z || k) (drop_second (in_columns r z) (in_columns s z) (row rs z) (row ss z) (ends_first s r rs z ends w.first_row.apart.1)) ∙ w.right z));
}
  where
    by : (q : Rect) → Beyond (r ∷ rs) q.x2 ⊎ Beyond (s ∷ ss) q.x2 → Beyond (r ∷ rs) q.x2 ⊎ Beyond ss q.x2
    by q (inl l) = inl l
    by q (inr l) = inr l.1

pub intersect_end : (one other first second old out : List Rect) (t u : ℤ) → Intersecting one other first second old out t u → (length first ≡ 0) ⊎ (length second ≡ 0)
    → (t' u' : ℤ) → t ≡ t' → u ≡ u' → Added old out t' u' (λ z. row one z && row other z)
intersect_end one other first second old out t u w n t' u' et eu = rw (sym et, sym eu) (record { fresh = w.fresh; items = w.items; is_row = w.is_row; right = λ z. sym (rw (over_now first second n z) (or-false (row w.fresh z))) ∙ w.right z })
  where
    over_now : (rs ss : List Rect) → (length rs ≡ 0) ⊎ (length ss ≡ 0) → (z : ℤ) → (row rs z && row ss z) ≡ false
    over_now [] ss n z = refl
    over_now (r ∷ rs) [] n z = and-false (row (r ∷ rs) z)
    over_now (r ∷ rs) (s ∷ ss) (inl n) z = absurd (omega (arith, n))
    over_now (r ∷ rs) (s ∷ ss) (inr n) z = absurd (omega (arith, n))

-- as the code goes: each number passed on is equal to what was answered
pub from_first : (rs : List Rect) (r : Rect) (rest : List Rect) (e : ℤ) → rs ≡ r ∷ rest → IsRow rs → e ≤ℤ r.x1 → From rs e
from_first rs r rest e p i l = rw p (l, all_weaker _ _ rest (λ s h. omega (arith, ints, h, l, (subst IsRow p i).apart.0)) (subst IsRow p i).apart.1)

pub whole_step : (one other first second old out : List Rect) (t u x : ℤ) → Subtracting one other first second old out t u x
    → (r : Rect) (rs : List Rect) → first ≡ r ∷ rs → (e : ℤ) → From second e → e ≡ r.x2
    → (a from from' b : ℤ) → a ≡ r.x1 → from ≡ greater_of x a → from' ≡ from → b ≡ r.x2 → (out' : List Rect) → out' ≡ put out t u from' b
    → Subtracting one other rs second old out' t u x
whole_step one other first second old out t u x w r rs is e f pe a from from' b pa pf pg pb out' po =
    rw (po, pg, pf, pa, pb) (subtract_whole one other old out t u x r rs second (subst (λ (k : List Rect). Subtracting one other k second old out t u x) is w) (subst (λ (k : ℤ). From second k) pe f))

cut_walk : (one other first second old out : List Rect) (t u x : ℤ) (r s : Rect) (rs ss : List Rect) → first ≡ r ∷ rs → second ≡ s ∷ ss → Subtracting one other first second old out t u x → Subtracting one other (r ∷ rs) (s ∷ ss) old out t u x
cut_walk one other first second old out t u x r s rs ss is are w = subst (λ (k : List Rect). Subtracting one other (r ∷ rs) k old out t u x) are (subst (λ (k : List Rect). Subtracting one other k second old out t u x) is w)

pub inside_step : (one other first second old out : List Rect) (t u x : ℤ) → Subtracting one other first second old out t u x
    → (r s : Rect) (rs ss : List Rect) → first ≡ r ∷ rs → second ≡ s ∷ ss → (e : ℤ) → s.x1 <ℤ e → e ≡ r.x2
    → (a from from' b : ℤ) → a ≡ r.x1 → from ≡ greater_of x a → from' ≡ from → b ≡ s.x1 → (out' : List Rect) → out' ≡ put out t u from' b → (x' : ℤ) → x' ≡ s.x2
    → Subtracting one other first ss old out' t u x'
inside_step one other first second old out t u x w r s rs ss is are e l pe a from from' b pa pf pg pb out' po x' px =
    rw (po, pg, pf, pa, pb, px, is) (subtract_inside one other old out t u x r s rs ss (cut_walk one other first second old out t u x r s rs ss is are w) (subst (λ (k : ℤ). s.x1 <ℤ k) pe l))

pub past_step : (one other first second old out : List Rect) (t u x : ℤ) → Subtracting one other first second old out t u x
    → (r s : Rect) (rs ss : List Rect) → first ≡ r ∷ rs → second ≡ s ∷ ss → (e : ℤ) → s.x1 <ℤ e → e ≡ r.x2 → r.x2 ≤ℤ s.x2
    → (a from from' b : ℤ) → a ≡ r.x1 → from ≡ greater_of x a → from' ≡ from → b ≡ s.x1 → (out' : List Rect) → out' ≡ put out t u from' b → (x' : ℤ) → x' ≡ s.x2
    → Subtracting one other rs second old out' t u x'
past_step one other first second old out t u x w r s rs ss is are e l pe ends a from from' b pa pf pg pb out' po x' px =
    rw (po, pg, pf, pa, pb, px, are) (subtract_past one other old out t u x r s rs ss (cut_walk one other first second old out t u x r s rs ss is are w) (subst (λ (k : ℤ). s.x1 <ℤ k) pe l) ends)

common_walk : (one other first second old out : List Rect) (t u : ℤ) (r s : Rect) (rs ss : List Rect) → first ≡ r ∷ rs → second ≡ s ∷ ss → Intersecting one other first second old out t u → Intersecting one other (r ∷ rs) (s ∷ ss) old out t u
common_walk one other first second old out t u r s rs ss is are w = subst (λ (k : List Rect). Intersecting one other (r ∷ rs) k old out t u) are (subst (λ (k : List Rect). Intersecting one other k second old out t u) is w)

pub first_step : (one other first second old out : List Rect) (t u : ℤ) → Intersecting one other first second old out t u
    → (r s : Rect) (rs ss : List Rect) → first ≡ r ∷ rs → second ≡ s ∷ ss → r.x2 ≤ℤ s.x2
    → (a b from from' c d to to' : ℤ) → a ≡ r.x1 → b ≡ s.x1 → from ≡ greater_of a b → from' ≡ from → c ≡ r.x2 → d ≡ s.x2 → to ≡ lesser_of c d → to' ≡ to → (out' : List Rect) → out' ≡ put out t u from' to'
    → Intersecting one other rs second old out' t u
first_step one other first second old out t u w r s rs ss is are l a b from from' c d to to' pa pb pf pg pc pd pt pu out' po =
    rw (po, pg, pf, pa, pb, pu, pt, pc, pd, are) (intersect_first one other old out t u r s rs ss (common_walk one other first second old out t u r s rs ss is are w) l)

pub second_step : (one other first second old out : List Rect) (t u : ℤ) → Intersecting one other first second old out t u
    → (r s : Rect) (rs ss : List Rect) → first ≡ r ∷ rs → second ≡ s ∷ ss → s.x2 ≤ℤ r.x2
    → (a b from from' c d to to' : ℤ) → a ≡ r.x1 → b ≡ s.x1 → from ≡ greater_of a b → from' ≡ from → c ≡ r.x2 → d ≡ s.x2 → to ≡ lesser_of c d → to' ≡ to → (out' : List Rect) → out' ≡ put out t u from' to'
    → Intersecting one other first ss old out' t u
second_step one other first second old out t u w r s rs ss is are l a b from from' c d to to' pa pb pf pg pc pd pt pu out' po =
    rw (po, pg, pf, pa, pb, pu, pt, pc, pd, is) (intersect_second one other old out t u r s rs ss (common_walk one other first second old out t u r s rs ss is are w) l)
