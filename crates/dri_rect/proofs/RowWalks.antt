-- Rows, and what the walks over two of them share.
use Rattle.std.proofs.Common.{◌≡◌, List, length, [], ◌∷◌, ◌++◌, Bool, true, false, arith, refl, sym, ◌∙◌, inl, inr, ap, append_assoc, append-nil}
use Rattle.std.specs.Prelude.{ℤ, pos, ◌<ℤ◌, ◌≤ℤ◌, ◌-ℤ◌, ◌⊎◌, ◌&&◌, ◌||◌, int_lt, int_le, unsigned_abs, ◌<◌}
use Rattle.std.specs.List.{AllByRecursion}
use Rattle.std.proofs.lemmas.Int.{ints, by_lt_z}
use Rattle.std.proofs.lemmas.Bool.{true≢false}
use Rattle.std.proofs.Math.Bool.{and-false, and-true, or-false, or_assoc}
use Rattle.dri_base.specs.declared.shape.Rect.{Rect}
use Rattle.dri_rect.specs.declared.operation.Operation.{Operation}
use Rattle.dri_rect.specs.declared.operation.Operation.TheVariants.{Unite, Subtract, Intersect}
use Rattle.dri_rect.specs.Pixels.{in_columns, least, most}
use Rattle.dri_rect.specs.Walk.{row, answer, Apart, FitsAcross, IsRow, IsLesser, rectangle, columns, put, placed, Added, both_empty, is_done, IsLevel}

pub all_weaker : (P Q : Rect → Type 0) (rs : List Rect) → ((r : Rect) → P r → Q r) → AllByRecursion P rs → AllByRecursion Q rs
all_weaker P Q [] f a = tt
all_weaker P Q (r ∷ rs) f a = (f r a.0, all_weaker P Q rs f a.1)

pub all_append : (P : Rect → Type 0) (rs ss : List Rect) → AllByRecursion P rs → AllByRecursion P ss → AllByRecursion P (rs ++ ss)
all_append P [] ss a b = b
all_append P (r ∷ rs) ss a b = (a.0, all_append P rs ss a.1 b)

pub row_append : (rs ss : List Rect) (z : ℤ) → row (rs ++ ss) z ≡ (row rs z || row ss z)
row_append [] ss z = refl
row_append (r ∷ rs) ss z = ap (λ b. in_columns r z || b) (row_append rs ss z) ∙ sym (or_assoc (in_columns r z) (row rs z) (row ss z))

pub row_none : (rs : List Rect) (e z : ℤ) → AllByRecursion (λ s. e <ℤ s.x1) rs → z ≤ℤ e → row rs z ≡ false
row_none [] e z a l = refl
row_none (r ∷ rs) e z a l = let h : in_columns r z ≡ false = first r a.0 in rw h (row_none rs e z a.1 l)
  where
    first : (r : Rect) → e <ℤ r.x1 → in_columns r z ≡ false
    first r h = grind (arith, ints)

lacks_left : (r : Rect) (z : ℤ) → z <ℤ r.x1 → in_columns r z ≡ false
lacks_left r z a = grind (arith, ints)

pub placed_append : (t b : ℤ) (rs ss : List Rect) → placed t b (rs ++ ss) ≡ placed t b rs ++ placed t b ss
placed_append t b [] ss = refl
placed_append t b (r ∷ rs) ss = ap (λ k. rectangle r.x1 t r.x2 b ∷ k) (placed_append t b rs ss)

apart_push : (out : List Rect) (s x : ℤ) → Apart out → AllByRecursion (λ r. r.x2 <ℤ s) out → s <ℤ x → Apart (out ++ (rectangle s (pos 0) x (pos 1) ∷ []))
apart_push [] s x a b l = (l, tt, tt)
apart_push (r ∷ rs) s x a b l = (a.0, all_append (λ t. r.x2 <ℤ t.x1) rs (rectangle s (pos 0) x (pos 1) ∷ []) a.1 (b.0, tt), apart_push rs s x a.2 b.1 l)

-- what stays of a row behind its first rectangle
pub rest_row : (r : Rect) (rs : List Rect) → IsRow (r ∷ rs) → IsRow rs
rest_row r rs i = record { apart = i.apart.2; fits = i.fits.1 }

-- columns put last
pub fits_columns : (a b : ℤ) → least ≤ℤ a → b ≤ℤ most → AllByRecursion FitsAcross (columns a b)
fits_columns a b l h = by (int_lt a b) refl
  where
    by : (k : Bool) → int_lt a b ≡ k → AllByRecursion FitsAcross (columns a b)
    by true e = rw e (record { left = l; right = h }, tt)
    by false e = rw e tt

pub row_columns : (a b z : ℤ) → row (columns a b) z ≡ (int_le a z && int_lt z b)
row_columns a b z = by_lt_z a b (λ h. some h) (λ h. none h)
  where
    some : a <ℤ b → row (columns a b) z ≡ (int_le a z && int_lt z b)
    some h = let e : int_lt a b ≡ true = grind (arith, ints) in rw e (or-false _)

    none : b ≤ℤ a → row (columns a b) z ≡ (int_le a z && int_lt z b)
    none h = let e : int_lt a b ≡ false = grind (arith, ints) in rw e (grind (arith, ints))

pub row_put : (out : List Rect) (a b : ℤ) → IsRow out → AllByRecursion (λ r. r.x2 <ℤ a) out → least ≤ℤ a → b ≤ℤ most → IsRow (out ++ columns a b)
row_put out a b i before l h = record { apart = by (int_lt a b) refl; fits = all_append FitsAcross out (columns a b) i.fits (fits_columns a b l h) }
  where
    by : (k : Bool) → int_lt a b ≡ k → Apart (out ++ columns a b)
    by true e = rw e (apart_push out a b i.apart before (grind (arith, ints)))
    by false e = rw (e, append-nil out) i.apart

pub put_items : (old out fresh : List Rect) (t b x1 x2 : ℤ) → out ≡ old ++ placed t b fresh → put out t b x1 x2 ≡ old ++ placed t b (fresh ++ columns x1 x2)
put_items old out fresh t b x1 x2 e = by (int_lt x1 x2) refl
  where
    by : (k : Bool) → int_lt x1 x2 ≡ k → put out t b x1 x2 ≡ old ++ placed t b (fresh ++ columns x1 x2)
    by true h = rw (h, e, append_assoc, placed_append t b fresh (rectangle x1 (pos 0) x2 (pos 1) ∷ [])) refl
    by false h = rw (h, append-nil fresh) e

pub nothing : (op : Operation) → answer op false false ≡ false
nothing Unite = refl
nothing Subtract = refl
nothing Intersect = refl

pub left_of : (rs : List Rect) (z : ℤ) → AllByRecursion FitsAcross rs → z <ℤ least → row rs z ≡ false
left_of [] z f l = refl
left_of (r ∷ rs) z f l = let h : in_columns r z ≡ false = lacks_left r z (omega (arith, ints, f.0.left)) in rw h (left_of rs z f.1 l)

pub row_further : (x e f m : ℤ) → x <ℤ e → x <ℤ f → IsLesser e f m → x <ℤ m
row_further x e f m p q l = by l.one
  where
    by : (m ≡ e) ⊎ (m ≡ f) → x <ℤ m
    by (inl h) = omega (arith, ints)
    by (inr h) = omega (arith, ints)

pub row_smaller : (x m : ℤ) → x <ℤ m → m ≤ℤ most → unsigned_abs (most -ℤ m) < unsigned_abs (most -ℤ x)
row_smaller x m a b = grind (arith, ints)

pub done_none : (op : Operation) (rs ss : List Rect) (z : ℤ) → is_done op rs ss ≡ true → answer op (row rs z) (row ss z) ≡ false
done_none Unite [] [] z d = refl
done_none Unite [] (s ∷ ss) z d = absurd (true≢false (sym d))
done_none Unite (r ∷ rs) ss z d = absurd (true≢false (sym d))
done_none Subtract [] ss z d = refl
done_none Subtract (r ∷ rs) ss z d = absurd (true≢false (sym d))
done_none Intersect [] ss z d = refl
done_none Intersect (r ∷ rs) [] z d = and-false (row (r ∷ rs) z)
done_none Intersect (r ∷ rs) (s ∷ ss) z d = absurd (true≢false (sym d))

pub done_open : (op : Operation) (rs ss : List Rect) → is_done op rs ss ≡ false → both_empty rs ss ≡ false
done_open Unite rs ss e = e
done_open Subtract [] ss e = absurd (true≢false e)
done_open Subtract (r ∷ rs) ss e = refl
done_open Intersect [] ss e = absurd (true≢false e)
done_open Intersect (r ∷ rs) [] e = absurd (true≢false e)
done_open Intersect (r ∷ rs) (s ∷ ss) e = refl

-- an operation with an empty row
pub unite_first : (a b old out : List Rect) (t u : ℤ) → IsRow a → length b ≡ 0 → out ≡ old ++ placed t u a → Added old out t u (λ z. answer Unite (row a z) (row b z))
unite_first a [] old out t u i n e = record { fresh = a; items = e; is_row = i; right = λ z. sym (or-false (row a z)) }
unite_first a (s ∷ ss) old out t u i n e = absurd (omega (arith, n))

pub unite_second : (a b old out : List Rect) (t u : ℤ) → IsRow b → length a ≡ 0 → out ≡ old ++ placed t u b → Added old out t u (λ z. answer Unite (row a z) (row b z))
unite_second [] b old out t u i n e = record { fresh = b; items = e; is_row = i; right = λ z. refl }
unite_second (s ∷ ss) b old out t u i n e = absurd (omega (arith, n))

pub subtract_first : (a b old out : List Rect) (t u : ℤ) → IsRow a → length b ≡ 0 → out ≡ old ++ placed t u a → Added old out t u (λ z. answer Subtract (row a z) (row b z))
subtract_first a [] old out t u i n e = record { fresh = a; items = e; is_row = i; right = λ z. sym (and-true (row a z)) }
subtract_first a (s ∷ ss) old out t u i n e = absurd (omega (arith, n))

pub nothing_added : (op : Operation) (a b old out : List Rect) (t u : ℤ) → is_done op a b ≡ true → out ≡ old → Added old out t u (λ z. answer op (row a z) (row b z))
nothing_added op a b old out t u d e = record { fresh = []; items = e ∙ sym (append-nil old); is_row = record { apart = tt; fits = tt }; right = λ z. sym (done_none op a b z d) }

-- a row that stands between these lines is placed there
pub placed_level : (rs : List Rect) (r : Rect) (rest : List Rect) (t b : ℤ) → rs ≡ r ∷ rest → IsLevel rs → r.y1 ≡ t → r.y2 ≡ b → rs ≡ placed t b rs
placed_level [] r rest t b e l p q = cc
placed_level (s ∷ ss) r rest t b e l p q = λ i. one s top bottom i ∷ go ss l i
  where
    same : s ≡ r
    same = cc

    top : s.y1 ≡ t
    top = ap (λ (k : Rect). k.y1) same ∙ p

    bottom : s.y2 ≡ b
    bottom = ap (λ (k : Rect). k.y2) same ∙ q

    one : (k : Rect) → k.y1 ≡ t → k.y2 ≡ b → k ≡ rectangle k.x1 t k.x2 b
    one k u v = λ i. record { x1 = k.x1; y1 = u i; x2 = k.x2; y2 = v i }

    go : (ks : List Rect) → AllByRecursion (λ k. (k.y1 ≡ s.y1) × (k.y2 ≡ s.y2)) ks → ks ≡ placed t b ks
    go [] a = refl
    go (k ∷ ks) a = λ i. one k (a.0.0 ∙ top) (a.0.1 ∙ bottom) i ∷ go ks a.1 i
