-- The union of two rows, by the rectangle that begins first, again and again.
use Rattle.std.proofs.Common.{◌≡◌, List, length, [], ◌∷◌, ◌++◌, Bool, true, false, arith, refl, sym, ◌∙◌, ap, subst, append-nil}
use Rattle.std.specs.Prelude.{ℤ, ◌<ℤ◌, ◌≤ℤ◌, ◌&&◌, ◌||◌, int_lt, int_le}
use Rattle.std.specs.List.{AllByRecursion}
use Rattle.std.proofs.lemmas.Int.{ints}
use Rattle.std.proofs.lemmas.Bool.{true≢false}
use Rattle.std.proofs.Math.Bool.{or-false, or_assoc}
use Rattle.dri_base.specs.declared.shape.Rect.{Rect}
use Rattle.dri_rect.specs.Pixels.{in_columns, least, most}
use Rattle.dri_rect.specs.Walk.{row, FitsAcross, IsRow, greater_of, columns, put, Added, both_empty, From, IsPicked, widened, wide_from, wide_to, Uniting}
use Rattle.dri_rect.proofs.RowWalks.{rest_row, all_weaker, all_append, row_append, row_columns, row_put, put_items}

or_swap : (a b c : Bool) → (a || (b || c)) ≡ (b || (a || c))
or_swap true true c = refl
or_swap true false c = refl
or_swap false b c = refl

rest_from : (r : Rect) (rs : List Rect) (n : ℤ) → n ≤ℤ r.x1 → IsRow (r ∷ rs) → From rs n
rest_from r rs n l i = all_weaker _ _ rs (λ s h. omega (arith, ints, h, i.apart.0, l)) i.apart.1

-- the first rectangle of the first row is picked, where the second begins there or behind
first_is : (r : Rect) (rs ss : List Rect) → IsRow (r ∷ rs) → IsRow ss → From ss r.x1 → IsPicked (r ∷ rs) ss r.x1 r.x2 rs ss
first_is r rs ss i j f = record {
  longer = i.apart.0;
  low = i.fits.0.left;
  high = i.fits.0.right;
  begins = λ n p q. p.0;
  first_row = rest_row r rs i;
  second_row = j;
  first_from = rest_from r rs r.x1 (omega (arith, ints)) i;
  second_from = f;
  fewer = omega arith;
  same = λ z. or_assoc (in_columns r z) (row rs z) (row ss z);
}

second_is : (s : Rect) (rs ss : List Rect) → IsRow rs → IsRow (s ∷ ss) → From rs s.x1 → IsPicked rs (s ∷ ss) s.x1 s.x2 rs ss
second_is s rs ss i j f = record {
  longer = j.apart.0;
  low = j.fits.0.left;
  high = j.fits.0.right;
  begins = λ n p q. q.0;
  first_row = i;
  second_row = rest_row s ss j;
  first_from = f;
  second_from = rest_from s ss s.x1 (omega (arith, ints)) j;
  fewer = omega arith;
  same = λ z. or_swap (row rs z) (in_columns s z) (row ss z);
}

from_head : (r : Rect) (rs : List Rect) (n : ℤ) → n ≤ℤ r.x1 → IsRow (r ∷ rs) → From (r ∷ rs) n
from_head r rs n l i = (l, rest_from r rs n l i)

-- as the code picks
pub pick_none : (rs ss : List Rect) → length rs ≡ 0 → length ss ≡ 0 → both_empty rs ss ≡ true
pick_none [] [] a b = refl
pick_none [] (s ∷ ss) a b = absurd (omega (arith, b))
pick_none (r ∷ rs) ss a b = absurd (omega (arith, a))

pub pick_alone : (rs ss : List Rect) (s : Rect) (others : List Rect) (x1 x2 : ℤ) → length rs ≡ 0 → ss ≡ s ∷ others → IsRow rs → IsRow ss → x1 ≡ s.x1 → x2 ≡ s.x2 → IsPicked rs ss x1 x2 rs others
pick_alone [] ss s others x1 x2 n e i j p q = rw (e, p, q) (second_is s [] others i (subst IsRow e j) tt)
pick_alone (r ∷ rs) ss s others x1 x2 n e i j p q = absurd (omega (arith, n))

pub pick_other : (rs ss : List Rect) (r s : Rect) (more others : List Rect) (x1 x2 : ℤ) → rs ≡ r ∷ more → ss ≡ s ∷ others → s.x1 ≤ℤ r.x1 → IsRow rs → IsRow ss → x1 ≡ s.x1 → x2 ≡ s.x2 → IsPicked rs ss x1 x2 rs others
pick_other rs ss r s more others x1 x2 d e l i j p q = rw (d, e, p, q) (second_is s (r ∷ more) others (subst IsRow d i) (subst IsRow e j) (from_head r more s.x1 l (subst IsRow d i)))

pub pick_one : (rs ss : List Rect) (r s : Rect) (more others : List Rect) (x1 x2 : ℤ) → rs ≡ r ∷ more → ss ≡ s ∷ others → r.x1 ≤ℤ s.x1 → IsRow rs → IsRow ss → x1 ≡ r.x1 → x2 ≡ r.x2 → IsPicked rs ss x1 x2 more ss
pick_one rs ss r s more others x1 x2 d e l i j p q = rw (d, e, p, q) (first_is r more (s ∷ others) (subst IsRow d i) (subst IsRow e j) (from_head s others r.x1 l (subst IsRow e j)))

pub pick_last : (rs ss : List Rect) (r : Rect) (more : List Rect) (x1 x2 : ℤ) → rs ≡ r ∷ more → length ss ≡ 0 → IsRow rs → IsRow ss → x1 ≡ r.x1 → x2 ≡ r.x2 → IsPicked rs ss x1 x2 more ss
pick_last rs [] r more x1 x2 d n i j p q = rw (d, p, q) (first_is r more [] (subst IsRow d i) j tt)
pick_last rs (s ∷ ss) r more x1 x2 d n i j p q = absurd (omega (arith, n))

-- where the union begins
from_least : (rs : List Rect) → AllByRecursion FitsAcross rs → From rs least
from_least rs f = all_weaker FitsAcross _ rs (λ r h. h.left) f

pub unite_start : (a b old : List Rect) (t u : ℤ) → IsRow a → IsRow b → Uniting a b a b old old t u least least
unite_start a b old t u i j = record {
  fresh = [];
  items = sym (append-nil old);
  is_row = record { apart = tt; fits = tt };
  before = tt;
  order = omega (arith, ints);
  low = omega (arith, ints);
  high = omega (arith, ints);
  first_row = i;
  second_row = j;
  first_from = from_least a i.fits;
  second_from = from_least b j.fits;
  right = λ z. rw (nowhere z) refl;
}
  where
    nowhere : (z : ℤ) → (int_le least z && int_lt z least) ≡ false
    nowhere z = grind (arith, ints)

-- columns that touch the open ones are joined to them
span : (a b x1 x2 z : ℤ) → a ≤ℤ x1 → x1 ≤ℤ b → (int_le a z && int_lt z (greater_of b x2)) ≡ ((int_le a z && int_lt z b) || (int_le x1 z && int_lt z x2))
span a b x1 x2 z p q = grind (arith, ints)

reaches : (b x2 : ℤ) → b ≤ℤ greater_of b x2
reaches b x2 = grind (arith, ints)

at_most : (b x2 m : ℤ) → b ≤ℤ m → x2 ≤ℤ m → greater_of b x2 ≤ℤ m
at_most b x2 m p q = grind (arith, ints)

regroup : (f s t r : Bool) → ((f || (s || t)) || r) ≡ ((f || s) || (t || r))
regroup true s t r = refl
regroup false true t r = refl
regroup false false t r = refl

pub unite_on : (one other first second old out : List Rect) (t u a b : ℤ) → Uniting one other first second old out t u a b
    → (x1 x2 : ℤ) (left right : List Rect) → IsPicked first second x1 x2 left right → Uniting one other left right old (widened out t u a b x1) t u (wide_from a b x1) (wide_to b x1 x2)
unite_on one other first second old out t u a b w x1 x2 left right k = by (int_le x1 b) refl
  where
    at : a ≤ℤ x1
    at = k.begins a w.first_from w.second_from

    by : (j : Bool) → int_le x1 b ≡ j → Uniting one other left right old (widened out t u a b x1) t u (wide_from a b x1) (wide_to b x1 x2)
    by true touch = rw touch (record {
      fresh = w.fresh;
      items = w.items;
      is_row = w.is_row;
      before = w.before;
      order = omega (arith, ints, w.order, reaches b x2);
      low = w.low;
      high = at_most b x2 most w.high k.high;
      first_row = k.first_row;
      second_row = k.second_row;
      first_from = all_weaker _ _ left (λ r h. omega (arith, ints, h, at)) k.first_from;
      second_from = all_weaker _ _ right (λ r h. omega (arith, ints, h, at)) k.second_from;
      right = λ z. rw (span a b x1 x2 z at within) (regroup (row w.fresh z) (int_le a z && int_lt z b) (int_le x1 z && int_lt z x2) (row left z || row right z) ∙ (ap (λ q. (row w.fresh z || (int_le a z && int_lt z b)) || q) (sym (k.same z)) ∙ w.right z));
    })
      where
        within : x1 ≤ℤ b
        within = grind (arith, ints)
    by false apart = rw apart (record {
      fresh = w.fresh ++ columns a b;
      items = put_items old out w.fresh t u a b w.items;
      is_row = row_put w.fresh a b w.is_row w.before w.low w.high;
      before = all_append _ w.fresh (columns a b) (all_weaker _ _ w.fresh (λ r h. omega (arith, ints, h, at)) w.before) (last (int_lt a b) refl);
      order = omega (arith, ints, k.longer);
      low = k.low;
      high = k.high;
      first_row = k.first_row;
      second_row = k.second_row;
      first_from = k.first_from;
      second_from = k.second_from;
      right = λ z. rw (row_append w.fresh (columns a b) z, row_columns a b z) (or_assoc (row w.fresh z || (int_le a z && int_lt z b)) (int_le x1 z && int_lt z x2) (row left z || row right z) ∙ (ap (λ q. (row w.fresh z || (int_le a z && int_lt z b)) || q) (sym (k.same z)) ∙ w.right z));
    })
      where
        ahead : b <ℤ x1
        ahead = grind (arith, ints)

        last : (j : Bool) → int_lt a b ≡ j → AllByRecursion (λ r. r.x2 <ℤ x1) (columns a b)
        last true h = rw h (ahead, tt)
        last false h = rw h tt

-- a step of the code's loop
pub unite_step : (one other first second old out : List Rect) (t u a b : ℤ) → Uniting one other first second old out t u a b
    → (x1 x2 : ℤ) (left right : List Rect) → IsPicked first second x1 x2 left right
    → (out' : List Rect) → out' ≡ widened out t u a b x1 → (a' b' : ℤ) → a' ≡ wide_from a b x1 → b' ≡ wide_to b x1 x2 → Uniting one other left right old out' t u a' b'
unite_step one other first second old out t u a b w x1 x2 left right k out' eo a' b' ea eb = rw (eo, ea, eb) (unite_on one other first second old out t u a b w x1 x2 left right k)

pub unite_end : (one other first second old out : List Rect) (t u a b : ℤ) → Uniting one other first second old out t u a b → both_empty first second ≡ true
    → (out' : List Rect) (t' u' a' b' : ℤ) → t ≡ t' → u ≡ u' → a' ≡ a → b' ≡ b → out' ≡ put out t u a' b' → Added old out' t' u' (λ z. row one z || row other z)
unite_end one other [] [] old out t u a b w d out' t' u' a' b' et eu ea eb put_last = rw (sym et, sym eu) (record {
  fresh = w.fresh ++ columns a b;
  items = is ∙ put_items old out w.fresh t u a b w.items;
  is_row = row_put w.fresh a b w.is_row w.before w.low w.high;
  right = λ z. rw (row_append w.fresh (columns a b) z, row_columns a b z) (sym (or-false (row w.fresh z || (int_le a z && int_lt z b))) ∙ w.right z);
})
  where
    is : out' ≡ put out t u a b
    is = subst (λ n. out' ≡ put out t u n b) ea (subst (λ n. out' ≡ put out t u a' n) eb put_last)
unite_end one other [] (s ∷ ss) old out t u a b w d out' t' u' a' b' et eu ea eb put_last = absurd (true≢false (sym d))
unite_end one other (r ∷ rs) second old out t u a b w d out' t' u' a' b' et eu ea eb put_last = absurd (true≢false (sym d))
