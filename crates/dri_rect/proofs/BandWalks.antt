-- The walk over the bands of two regions.
use Rattle.std.proofs.Common.{◌≡◌, ℕ, List, [], ◌∷◌, ◌++◌, Bool, true, false, arith, refl, sym, ◌∙◌, inl, inr, ap, subst, append_assoc, get_or}
use Rattle.std.specs.Prelude.{ℤ, pos, ◌<ℤ◌, ◌≤ℤ◌, ◌-ℤ◌, ◌⊎◌, ◌&&◌, ◌||◌, int_lt, int_le, unsigned_abs, ◌<◌, take, drop, ◌≤◌, length, ◌+◌, zero, suc, if◌then◌else◌}
use Rattle.std.specs.Ordering.{int_eq}
use Rattle.std.specs.List.{AllByRecursion}
use Rattle.std.proofs.lemmas.Int.{ints, by_lt_z}
use Rattle.std.proofs.lemmas.Bool.{true≢false, and_parts}
use Rattle.std.proofs.lemmas.Bool.Decides.{Decides-int_eq}
use Rattle.std.proofs.Math.Bool.{and-false, or-false, or_assoc}
use Rattle.dri_base.specs.declared.shape.Rect.{Rect}
use Rattle.dri_rect.specs.declared.operation.Operation.{Operation}
use Rattle.dri_rect.specs.declared.operation.Operation.TheVariants.{Unite, Subtract, Intersect}
use Rattle.dri_rect.specs.Pixels.{In, in_columns, in_lines, inside, IsProper, Follows, IsBanded, IsTopped, IsCanonical, least, most}
use Rattle.dri_rect.specs.Walk.{row, answer, Apart, FitsAcross, IsRow, Fits, Bounded, IsLesser, rectangle, IsCombined, both_empty, is_done, Split, Ends, AheadDown, ReachesDown, IsBands, StretchDown, LaterDown, placed, same_columns, settled, settled_row, settled_top, CutsBand, IsCut, Built, BandWalk, IsAnswer, begins, Added, Placing, joined, joined_start, lowered, IsLevel, IsRegion, Under, IsRest, IsTop, IsStart, Skipped}
use Rattle.dri_rect.proofs.Unique.{found, proper, each, one_band, unique}
use Rattle.dri_rect.proofs.RowWalks.{all_weaker, all_append, row_further, row_smaller}
use Rattle.dri_rect.proofs.Placed.{length_append, take_front, drop_front}

and_or : (l a b : Bool) → ((l && a) || (l && b)) ≡ (l && (a || b))
and_or true a b = refl
and_or false a b = refl

pub inside_append : (rs ss : List Rect) (x z : ℤ) → inside (rs ++ ss) x z ≡ (inside rs x z || inside ss x z)
inside_append [] ss x z = refl
inside_append (r ∷ rs) ss x z = ap (λ b. (in_lines r z && in_columns r x) || b) (inside_append rs ss x z) ∙ sym (or_assoc (in_lines r z && in_columns r x) (inside rs x z) (inside ss x z))

pub inside_placed : (t b : ℤ) (rs : List Rect) (x z : ℤ) → inside (placed t b rs) x z ≡ ((int_le t z && int_lt z b) && row rs x)
inside_placed t b [] x z = sym (and-false (int_le t z && int_lt z b))
inside_placed t b (r ∷ rs) x z = ap (λ k. ((int_le t z && int_lt z b) && in_columns r x) || k) (inside_placed t b rs x z) ∙ and_or (int_le t z && int_lt z b) (in_columns r x) (row rs x)

pub above_line : (rs : List Rect) (t x z : ℤ) → AllByRecursion (λ r. r.y2 ≤ℤ t) rs → t ≤ℤ z → inside rs x z ≡ false
above_line [] t x z a l = refl
above_line (r ∷ rs) t x z a l = let h : (in_lines r z && in_columns r x) ≡ false = out r a.0 in rw h (above_line rs t x z a.1 l)
  where
    out : (r : Rect) → r.y2 ≤ℤ t → (in_lines r z && in_columns r x) ≡ false
    out r h = let k : in_lines r z ≡ false = grind (arith, ints) in rw k refl

pub below_line : (rs : List Rect) (t x z : ℤ) → AllByRecursion (λ r. t ≤ℤ r.y1) rs → z <ℤ t → inside rs x z ≡ false
below_line [] t x z a l = refl
below_line (r ∷ rs) t x z a l = let h : (in_lines r z && in_columns r x) ≡ false = out r a.0 in rw h (below_line rs t x z a.1 l)
  where
    out : (r : Rect) → t ≤ℤ r.y1 → (in_lines r z && in_columns r x) ≡ false
    out r h = let k : in_lines r z ≡ false = grind (arith, ints) in rw k refl

lines_in : (t b z : ℤ) → t ≤ℤ z → z <ℤ b → (int_le t z && int_lt z b) ≡ true
lines_in t b z p q = grind (arith, ints)

lines_before : (t b z : ℤ) → z <ℤ t → (int_le t z && int_lt z b) ≡ false
lines_before t b z p = grind (arith, ints)

le_true : (t z : ℤ) → t ≤ℤ z → int_le t z ≡ true
le_true t z p = grind (arith, ints)

le_false : (t z : ℤ) → z <ℤ t → int_le t z ≡ false
le_false t z p = grind (arith, ints)

all_placed : (P : Rect → Type 0) (t b : ℤ) (rs : List Rect) → AllByRecursion (λ r. P (rectangle r.x1 t r.x2 b)) rs → AllByRecursion P (placed t b rs)
all_placed P t b [] a = tt
all_placed P t b (r ∷ rs) a = (a.0, all_placed P t b rs a.1)

all_of : (P : Rect → Type 0) (rs : List Rect) → ((r : Rect) → P r) → AllByRecursion P rs
all_of P [] f = tt
all_of P (r ∷ rs) f = (f r, all_of P rs f)

pub banded_placed : (t b : ℤ) (rs : List Rect) → Apart rs → t <ℤ b → IsBanded (placed t b rs)
banded_placed t b [] a l = tt
banded_placed t b (r ∷ rs) a l = (record { across = a.0; down = l }, all_placed (Follows (rectangle r.x1 t r.x2 b)) t b rs (all_weaker _ _ rs (λ s h. inl (refl, refl, h)) a.1), banded_placed t b rs a.2 l)

pub banded_append : (t : ℤ) (rs ss : List Rect) → IsBanded rs → IsBanded ss → AllByRecursion (λ r. r.y2 ≤ℤ t) rs → AllByRecursion (λ s. s.y1 ≡ t) ss → IsBanded (rs ++ ss)
banded_append t [] ss a b p q = b
banded_append t (r ∷ rs) ss a b p q = (a.0, all_append (Follows r) rs ss a.1 (all_weaker _ _ ss (λ s h. inr (rw h p.0)) q), banded_append t rs ss a.2 b p.1 q)

pub in_append : (r : Rect) (rs ss : List Rect) → In r (rs ++ ss) → In r rs ⊎ In r ss
in_append r [] ss i = inr i
in_append r (s ∷ rs) ss (inl e) = inl (inl e)
in_append r (s ∷ rs) ss (inr i) = by (in_append r rs ss i)
  where
    by : In r rs ⊎ In r ss → In r (s ∷ rs) ⊎ In r ss
    by (inl j) = inl (inr j)
    by (inr j) = inr j

some_placed : (r : Rect) (t b : ℤ) (rs : List Rect) → In r (placed t b rs) → rs ≡ [] → ⊥
some_placed r t b [] i e = i
some_placed r t b (s ∷ ss) i e = cc

-- rows with the same columns, and rows that have others
pub same_rows : (ps ns : List Rect) (x : ℤ) → same_columns ps ns ≡ true → row ps x ≡ row ns x
same_rows [] [] x e = refl
same_rows [] (n ∷ ns) x e = absurd (true≢false (sym e))
same_rows (p ∷ ps) [] x e = absurd (true≢false (sym e))
same_rows (p ∷ ps) (n ∷ ns) x e = rw (left, right, same_rows ps ns x (and_parts (int_eq p.x2 n.x2) (same_columns ps ns) (and_parts (int_eq p.x1 n.x1) (int_eq p.x2 n.x2 && same_columns ps ns) e).1).1) refl
  where
    left : p.x1 ≡ n.x1
    left = (Decides-int_eq _ _).0 (and_parts (int_eq p.x1 n.x1) (int_eq p.x2 n.x2 && same_columns ps ns) e).0

    right : p.x2 ≡ n.x2
    right = (Decides-int_eq _ _).0 (and_parts (int_eq p.x2 n.x2) (same_columns ps ns) (and_parts (int_eq p.x1 n.x1) (int_eq p.x2 n.x2 && same_columns ps ns) e).1).0

placed_same : (t b : ℤ) (ps ns : List Rect) → placed t b ps ≡ placed t b ns → same_columns ps ns ≡ true
placed_same t b [] [] e = refl
placed_same t b [] (n ∷ ns) e = cc
placed_same t b (p ∷ ps) [] e = cc
placed_same t b (p ∷ ps) (n ∷ ns) e = rw ((Decides-int_eq p.x1 n.x1).1 left, (Decides-int_eq p.x2 n.x2).1 right, placed_same t b ps ns rest) refl
  where
    head : rectangle p.x1 t p.x2 b ≡ rectangle n.x1 t n.x2 b
    head = cc

    rest : placed t b ps ≡ placed t b ns
    rest = cc

    left : p.x1 ≡ n.x1
    left = ap (λ (q : Rect). q.x1) head

    right : p.x2 ≡ n.x2
    right = ap (λ (q : Rect). q.x2) head

-- a row alone is a region
alone : (ps : List Rect) → IsRow ps → IsCanonical (placed (pos 0) (pos 1) ps)
alone ps i = record {
  banded = banded_placed (pos 0) (pos 1) ps i.apart (omega (arith, ints));
  topped = λ r j same. some r j (same r.x1);
}
  where
    band : IsBanded (placed (pos 0) (pos 1) ps)
    band = banded_placed (pos 0) (pos 1) ps i.apart (omega (arith, ints))

    some : (r : Rect) → In r (placed (pos 0) (pos 1) ps) → inside (placed (pos 0) (pos 1) ps) r.x1 (r.y1 -ℤ pos 1) ≡ inside (placed (pos 0) (pos 1) ps) r.x1 r.y1 → ⊥
    some r j e = true≢false (sym here ∙ (sym e ∙ above))
      where
        size : IsProper r
        size = proper _ r band j

        line : r.y1 ≡ pos 0
        line = each (λ r. r.y1 ≡ pos 0) _ r (all_placed (λ r. r.y1 ≡ pos 0) (pos 0) (pos 1) ps (all_of _ ps (λ r. refl))) j

        here : inside (placed (pos 0) (pos 1) ps) r.x1 r.y1 ≡ true
        here = found _ r r.x1 r.y1 j (record { left = omega (arith, ints); right = size.across; top = omega (arith, ints); bottom = size.down })

        above : inside (placed (pos 0) (pos 1) ps) r.x1 (r.y1 -ℤ pos 1) ≡ false
        above = inside_placed (pos 0) (pos 1) ps r.x1 (r.y1 -ℤ pos 1) ∙ rw (lines_before (pos 0) (pos 1) (r.y1 -ℤ pos 1) (omega (arith, ints, line))) refl

pub same_from_rows : (ps ns : List Rect) → IsRow ps → IsRow ns → ((x : ℤ) → row ps x ≡ row ns x) → same_columns ps ns ≡ true
same_from_rows ps ns i j same = placed_same (pos 0) (pos 1) ps ns (unique _ _ (alone ps i) (alone ns j) (λ x z. inside_placed (pos 0) (pos 1) ps x z ∙ (ap (λ b. (int_le (pos 0) z && int_lt z (pos 1)) && b) (same x) ∙ sym (inside_placed (pos 0) (pos 1) ns x z))))

-- the open row ends at the line y
pub record Flushed (out : List Rect) (y : ℤ) (S : ℤ → ℤ → Bool) : Type 0 where
  pub canonical : IsCanonical out
  pub range : AllByRecursion Fits out
  pub above : AllByRecursion (λ r. r.y2 ≤ℤ y) out
  pub right : (x z : ℤ) → z <ℤ y → inside out x z ≡ S x z

-- lines above the open row are as they were, lines of it are the row
old_line : (out pending : List Rect) (top y x z : ℤ) → z <ℤ top → inside (out ++ placed top y pending) x z ≡ inside out x z
old_line out pending top y x z l = rw (inside_append out (placed top y pending) x z, inside_placed top y pending x z, lines_before top y z l) (or-false _)

new_line : (out pending : List Rect) (top y x z : ℤ) → AllByRecursion (λ r. r.y2 ≤ℤ top) out → top ≤ℤ z → z <ℤ y → inside (out ++ placed top y pending) x z ≡ row pending x
new_line out pending top y x z a p q = rw (inside_append out (placed top y pending) x z, inside_placed top y pending x z, lines_in top y z p q, above_line out top x z a p) refl

pub flushed : (out pending : List Rect) (top y : ℤ) (S : ℤ → ℤ → Bool) → Built out pending top y S → y ≤ℤ most → Flushed (out ++ placed top y pending) y S
flushed out pending top y S b hi = record {
  canonical = record {
    banded = banded_append top out (placed top y pending) b.canonical.banded (banded_placed top y pending b.is_row.apart b.order) b.above tops;
    topped = λ r i. by r (in_append r out (placed top y pending) i);
  };
  range = all_append Fits out (placed top y pending) b.range (ranges b.low);
  above = all_append _ out (placed top y pending) (all_weaker _ _ out (λ r h. omega (arith, ints, b.order)) b.above) (all_placed (λ r. r.y2 ≤ℤ y) top y pending (all_of _ pending (λ r. omega (arith, ints))));
  right = λ x z l. by_lt_z z top (λ q. old_line out pending top y x z q ∙ (sym (before x z q) ∙ b.right x z l)) (λ q. new_line out pending top y x z b.above q l ∙ (sym (now x z q) ∙ b.right x z l));
}
  where
    tops : AllByRecursion (λ s. s.y1 ≡ top) (placed top y pending)
    tops = all_placed (λ s. s.y1 ≡ top) top y pending (all_of _ pending (λ s. refl))

    before : (x z : ℤ) → z <ℤ top → (inside out x z || (int_le top z && row pending x)) ≡ inside out x z
    before x z q = rw (le_false top z q) (or-false _)

    now : (x z : ℤ) → top ≤ℤ z → (inside out x z || (int_le top z && row pending x)) ≡ row pending x
    now x z q = rw (above_line out top x z b.above q, le_true top z q) refl

    ranges : (pending ≡ []) ⊎ (least ≤ℤ top) → AllByRecursion Fits (placed top y pending)
    ranges (inl e) = rw e tt
    ranges (inr l) = all_placed Fits top y pending (all_weaker _ _ pending (λ r f. record { left = f.left; right = f.right; top = l; bottom = hi }) b.is_row.fits)

    by : (r : Rect) → In r out ⊎ In r (placed top y pending) → IsTopped (out ++ placed top y pending) r
    by r (inl i) same = b.canonical.topped r i (λ x. sym (old_line out pending top y x (r.y1 -ℤ pos 1) (omega (arith, ints, high, size.down))) ∙ (same x ∙ old_line out pending top y x r.y1 (omega (arith, ints, high, size.down))))
      where
        high : r.y2 ≤ℤ top
        high = each (λ r. r.y2 ≤ℤ top) out r b.above i

        size : IsProper r
        size = proper out r b.canonical.banded i
    by r (inr i) same = some_placed r top y pending i (b.differs (λ x. sym (old_line out pending top y x (top -ℤ pos 1) (omega (arith, ints))) ∙ (moved x ∙ new_line out pending top y x top b.above (omega (arith, ints)) b.order)))
      where
        line : r.y1 ≡ top
        line = each (λ r. r.y1 ≡ top) _ r tops i

        moved : (x : ℤ) → inside (out ++ placed top y pending) x (top -ℤ pos 1) ≡ inside (out ++ placed top y pending) x top
        moved x = subst (λ k. inside (out ++ placed top y pending) x (k -ℤ pos 1) ≡ inside (out ++ placed top y pending) x k) line (same x)

built_same : (out pending fresh : List Rect) (top y e : ℤ) (S : ℤ → ℤ → Bool) → Built out pending top y S → y <ℤ e → same_columns pending fresh ≡ true
    → ((x z : ℤ) → y ≤ℤ z → z <ℤ e → S x z ≡ row fresh x) → Built out pending top e S
built_same out pending fresh top y e S b l same s = record {
  canonical = b.canonical;
  range = b.range;
  is_row = b.is_row;
  above = b.above;
  low = b.low;
  order = omega (arith, ints, b.order);
  right = λ x z q. by_lt_z z y (λ p. b.right x z p) (λ p. rw (above_line out top x z b.above (omega (arith, ints, b.order)), le_true top z (omega (arith, ints, b.order)), s x z p q) (same_rows pending fresh x same));
  differs = b.differs;
}

built_new : (out pending fresh : List Rect) (top y e : ℤ) (S : ℤ → ℤ → Bool) → Built out pending top y S → y <ℤ e → least ≤ℤ y → y ≤ℤ most → same_columns pending fresh ≡ false → IsRow fresh
    → ((x z : ℤ) → y ≤ℤ z → z <ℤ e → S x z ≡ row fresh x) → Built (out ++ placed top y pending) fresh y e S
built_new out pending fresh top y e S b l lo hi other i s = record {
  canonical = f.canonical;
  range = f.range;
  is_row = i;
  above = f.above;
  low = inr lo;
  order = l;
  right = λ x z q. by_lt_z z y (λ p. rw (le_false y z p) (or-false _ ∙ f.right x z p)) (λ p. rw (above_line _ y x z f.above p, le_true y z p) (sym (s x z p q)));
  differs = λ same. absurd (true≢false (sym (same_from_rows pending fresh b.is_row i (λ x. sym (new_line out pending top y x (y -ℤ pos 1) b.above (omega (arith, ints, b.order)) (omega (arith, ints))) ∙ same x)) ∙ other));
}
  where
    f : Flushed (out ++ placed top y pending) y S
    f = flushed out pending top y S b hi

pub built_on : (out pending fresh : List Rect) (top y e : ℤ) (S : ℤ → ℤ → Bool) → Built out pending top y S → y <ℤ e → least ≤ℤ y → y ≤ℤ most → IsRow fresh
    → ((x z : ℤ) → y ≤ℤ z → z <ℤ e → S x z ≡ row fresh x) → Built (settled out pending fresh top y) (settled_row pending fresh) (settled_top pending fresh top y) e S
built_on out pending fresh top y e S b l lo hi i s = by (same_columns pending fresh) refl
  where
    by : (k : Bool) → same_columns pending fresh ≡ k → Built (settled out pending fresh top y) (settled_row pending fresh) (settled_top pending fresh top y) e S
    by true h = rw h (built_same out pending fresh top y e S b l h s)
    by false h = rw h (built_new out pending fresh top y e S b l lo hi h i s)

-- the first band and the bands below it
pub began : (rs : List Rect) (n : ℕ) (top : ℤ) → begins (drop n rs) top ≡ true → AllByRecursion (λ r. r.y1 ≡ top) (take n rs) → (n + 1 ≤ length rs) × AllByRecursion (λ r. r.y1 ≡ top) (take (n + 1) rs)
began rs n top b a = let e : n + 1 ≡ suc n = omega arith in rw e (go rs n b a)
  where
    go : (rs : List Rect) (n : ℕ) → begins (drop n rs) top ≡ true → AllByRecursion (λ r. r.y1 ≡ top) (take n rs) → (suc n ≤ length rs) × AllByRecursion (λ r. r.y1 ≡ top) (take (suc n) rs)
    go [] zero b a = absurd (true≢false (sym b))
    go [] (suc n) b a = absurd (true≢false (sym b))
    go (r ∷ rs) zero b a = (omega arith, ((Decides-int_eq _ _).0 b, tt))
    go (r ∷ rs) (suc n) b a = up (go rs n b a.1)
      where
        up : (suc n ≤ length rs) × AllByRecursion (λ r. r.y1 ≡ top) (take (suc n) rs) → (suc (suc n) ≤ length (r ∷ rs)) × AllByRecursion (λ r. r.y1 ≡ top) (take (suc (suc n)) (r ∷ rs))
        up h = (omega (arith, h.0), (a.0, h.1))

pub not_began : (rs : List Rect) (top : ℤ) → begins rs top ≡ false → Ends rs top
not_began [] top e = tt
not_began (r ∷ rs) top e = λ h. true≢false (sym ((Decides-int_eq r.y1 top).1 h) ∙ e)

all_in : (P : Rect → Type 0) (rs : List Rect) → ((s : Rect) → In s rs → P s) → AllByRecursion P rs
all_in P [] f = tt
all_in P (r ∷ rs) f = (f r (inl refl), all_in P rs (λ s i. f s (inr i)))

in_left : (s : Rect) (xs ys : List Rect) → In s xs → In s (xs ++ ys)
in_left s [] ys i = absurd i
in_left s (x ∷ xs) ys (inl e) = inl e
in_left s (x ∷ xs) ys (inr i) = inr (in_left s xs ys i)

in_right : (s : Rect) (xs ys : List Rect) → In s ys → In s (xs ++ ys)
in_right s [] ys i = i
in_right s (x ∷ xs) ys i = inr (in_right s xs ys i)

banded_right : (xs ys : List Rect) → IsBanded (xs ++ ys) → IsBanded ys
banded_right [] ys b = b
banded_right (x ∷ xs) ys b = banded_right xs ys b.2

all_left : (P : Rect → Type 0) (xs ys : List Rect) → AllByRecursion P (xs ++ ys) → AllByRecursion P xs
all_left P [] ys a = tt
all_left P (x ∷ xs) ys a = (a.0, all_left P xs ys a.1)

all_right : (P : Rect → Type 0) (xs ys : List Rect) → AllByRecursion P (xs ++ ys) → AllByRecursion P ys
all_right P [] ys a = a
all_right P (x ∷ xs) ys a = all_right P xs ys a.1

banded_left : (xs ys : List Rect) → IsBanded (xs ++ ys) → IsBanded xs
banded_left [] ys b = tt
banded_left (x ∷ xs) ys b = (b.0, all_left (Follows x) xs ys b.1, banded_left xs ys b.2)

apart_band : (t : ℤ) (xs : List Rect) → IsBanded xs → AllByRecursion (λ s. s.y1 ≡ t) xs → Apart xs
apart_band t [] b a = tt
apart_band t (x ∷ xs) b a = (b.0.across, all_in (λ s. x.x2 <ℤ s.x1) xs (λ s i. by s (each (Follows x) xs s b.1 i) (each (λ s. s.y1 ≡ t) xs s a.1 i)), apart_band t xs b.2 a.1)
  where
    by : (s : Rect) → Follows x s → s.y1 ≡ t → x.x2 <ℤ s.x1
    by s (inl f) e = f.2
    by s (inr f) e = absurd (omega (arith, ints, f, e, a.0, b.0.down))

band_row : (xs : List Rect) (t b x z : ℤ) → AllByRecursion (λ s. s.y1 ≡ t) xs → AllByRecursion (λ s. s.y2 ≡ b) xs → t ≤ℤ z → z <ℤ b → inside xs x z ≡ row xs x
band_row [] t b x z p q l h = refl
band_row (r ∷ rs) t b x z p q l h = rw (p.0, q.0, lines_in t b z l h, band_row rs t b x z p.1 q.1 l h) refl

-- what is behind the first band is below it
behind : (r : Rect) (rs xs ys : List Rect) → IsBanded (r ∷ rs) → Split (r ∷ rs) xs ys r.y1 → AllByRecursion (λ s. r.y2 ≤ℤ s.y1) ys
behind r rs xs [] b k = tt
behind r rs xs (h ∷ t) b k = (first, all_in (λ s. r.y2 ≤ℤ s.y1) t (λ s i. by s (each (Follows h) t s later.1 i)))
  where
    later : IsBanded (h ∷ t)
    later = banded_right xs (h ∷ t) (subst IsBanded k.whole b)

    go : In h (r ∷ rs) → r.y2 ≤ℤ h.y1
    go (inl e) = absurd (k.rest (ap (λ (q : Rect). q.y1) e))
    go (inr i) = or (each (Follows r) rs h b.1 i)
      where
        or : Follows r h → r.y2 ≤ℤ h.y1
        or (inl f) = absurd (k.rest f.0)
        or (inr f) = f

    first : r.y2 ≤ℤ h.y1
    first = go (subst (In h) (sym k.whole) (in_right h xs (h ∷ t) (inl refl)))

    by : (s : Rect) → Follows h s → r.y2 ≤ℤ s.y1
    by s (inl f) = omega (arith, ints, f.0, first)
    by s (inr f) = omega (arith, ints, f, first, later.0.down)

-- the rectangles of the first band end at one line
bottoms : (r : Rect) (rs xs ys : List Rect) → IsBanded (r ∷ rs) → Split (r ∷ rs) xs ys r.y1 → AllByRecursion (λ s. s.y2 ≡ r.y2) xs
bottoms r rs xs ys b k = all_in (λ s. s.y2 ≡ r.y2) xs (λ s i. at s (each (λ s. s.y1 ≡ r.y1) xs s k.band i) (subst (In s) (sym k.whole) (in_left s xs ys i)))
  where
    at : (s : Rect) → s.y1 ≡ r.y1 → In s (r ∷ rs) → s.y2 ≡ r.y2
    at s e j = (one_band (r ∷ rs) r s r.y1 b (inl refl) j (omega (arith, ints)) b.0.down (omega (arith, ints, e)) (omega (arith, ints, e, down))).1
      where
        down : s.y1 <ℤ s.y2
        down = (proper (r ∷ rs) s b j).down

level_of : (t b : ℤ) (rs : List Rect) → AllByRecursion (λ r. r.y1 ≡ t) rs → AllByRecursion (λ r. r.y2 ≡ b) rs → IsLevel rs
level_of t b [] p q = tt
level_of t b (r ∷ rs) p q = go rs p.1 q.1
  where
    go : (ss : List Rect) → AllByRecursion (λ s. s.y1 ≡ t) ss → AllByRecursion (λ s. s.y2 ≡ b) ss → AllByRecursion (λ s. (s.y1 ≡ r.y1) × (s.y2 ≡ r.y2)) ss
    go [] u v = tt
    go (s ∷ ss) u v = ((u.0 ∙ sym p.0, v.0 ∙ sym q.0), go ss u.1 v.1)

pub stretch_down_none : (y : ℤ) → y ≤ℤ most → StretchDown [] y [] (pos 4097)
stretch_down_none y l = record { longer = omega (arith, ints); steady = λ x z a b. refl; reaches = tt; bounded = tt; is_row = record { apart = tt; fits = tt }; level = tt }

pub stretch_down_in : (r : Rect) (rs xs ys : List Rect) (y : ℤ) → IsBands (r ∷ rs) → y <ℤ r.y2 → r.y1 ≤ℤ y → Split (r ∷ rs) xs ys r.y1 → StretchDown (r ∷ rs) y xs r.y2
stretch_down_in r rs xs ys y i a l k = record {
  longer = a;
  steady = λ x z p q. subst (λ w. inside w x z ≡ row xs x) (sym k.whole) (rw (inside_append xs ys x z, below_line ys r.y2 x z (behind r rs xs ys i.banded k) q, or-false (inside xs x z)) (band_row xs r.y1 r.y2 x z k.band (bottoms r rs xs ys i.banded k) (omega (arith, ints)) q));
  reaches = omega (arith, ints);
  bounded = i.range.0.bottom;
  is_row = record { apart = apart_band r.y1 xs (banded_left xs ys (subst IsBanded k.whole i.banded)) k.band; fits = all_weaker Fits FitsAcross xs (λ s h. record { left = h.left; right = h.right }) (all_left Fits xs ys (subst (AllByRecursion Fits) k.whole i.range)) };
  level = level_of r.y1 r.y2 xs k.band (bottoms r rs xs ys i.banded k);
}

pub stretch_down_out : (r : Rect) (rs : List Rect) (y : ℤ) → IsBands (r ∷ rs) → y <ℤ r.y1 → StretchDown (r ∷ rs) y [] r.y1
stretch_down_out r rs y i l = record {
  longer = l;
  steady = λ x z p q. below_line (r ∷ rs) r.y1 x z (omega (arith, ints), all_weaker (Follows r) (λ s. r.y1 ≤ℤ s.y1) rs by i.banded.1) q;
  reaches = omega (arith, ints, i.banded.0.down);
  bounded = omega (arith, ints, i.banded.0.down, i.range.0.bottom);
  is_row = record { apart = tt; fits = tt };
  level = tt;
}
  where
    by : (s : Rect) → Follows r s → r.y1 ≤ℤ s.y1
    by s (inl f) = omega (arith, ints, f.0)
    by s (inr f) = omega (arith, ints, f, i.banded.0.down)

pub later_down_more : (r : Rect) (rs xs ys : List Rect) (y : ℤ) → IsBands (r ∷ rs) → y ≤ℤ r.y2 → r.y2 ≤ℤ y → Split (r ∷ rs) xs ys r.y1 → LaterDown (r ∷ rs) ys y
later_down_more r rs xs ys y i a l k = record {
  is_bands = record { banded = down; range = all_right Fits xs ys (subst (AllByRecursion Fits) k.whole i.range) };
  ahead = next ys down (behind r rs xs ys i.banded k);
  same = λ x z p. subst (λ w. inside w x z ≡ inside ys x z) (sym k.whole) (rw (inside_append xs ys x z, above_line xs r.y2 x z (all_weaker (λ s. s.y2 ≡ r.y2) (λ s. s.y2 ≤ℤ r.y2) xs (λ s e. omega (arith, ints)) (bottoms r rs xs ys i.banded k)) (omega (arith, ints))) refl);
  part = λ s h. subst (In s) (sym k.whole) (in_right s xs ys h);
}
  where
    down : IsBanded ys
    down = banded_right xs ys (subst IsBanded k.whole i.banded)

    next : (ys : List Rect) → IsBanded ys → AllByRecursion (λ s. r.y2 ≤ℤ s.y1) ys → AheadDown ys y
    next [] b p = tt
    next (s ∷ ss) b p = omega (arith, ints, p.0, b.0.down)

later_down_then : (a rs ts : List Rect) (y e : ℤ) → LaterDown a rs y → y ≤ℤ e → LaterDown rs ts e → LaterDown a ts e
later_down_then a rs ts y e p l q = record { is_bands = q.is_bands; ahead = q.ahead; same = λ x z h. p.same x z (omega (arith, ints)) ∙ q.same x z h; part = λ r h. p.part r (q.part r h) }

-- where the walk begins
pub top_none : (rs : List Rect) → length rs ≡ 0 → IsTop rs least
top_none [] n = record { low = omega (arith, ints); high = omega (arith, ints); above = λ x z p. refl }
top_none (r ∷ rs) n = absurd (omega (arith, n))

pub top_some : (rs : List Rect) (r : Rect) (rest : List Rect) → rs ≡ r ∷ rest → IsBands rs → IsTop rs r.y1
top_some [] r rest e i = cc
top_some (q ∷ qs) r rest e i = let same : q ≡ r = cc in subst (λ (s : Rect). IsTop (q ∷ qs) s.y1) same (record {
  low = i.range.0.top;
  high = omega (arith, ints, i.banded.0.down, i.range.0.bottom);
  above = λ x z p. below_line (q ∷ qs) q.y1 x z (omega (arith, ints), all_weaker (Follows q) _ qs (λ s f. by i.banded.0.down s f) i.banded.1) p;
})
  where
    by : q.y1 <ℤ q.y2 → (s : Rect) → Follows q s → q.y1 ≤ℤ s.y1
    by d s (inl f) = omega (arith, ints, f.0)
    by d s (inr f) = omega (arith, ints, f, d)

-- bands that end above a line
pub skip_more : (rs ts : List Rect) (r : Rect) (rest : List Rect) (y : ℤ) → Skipped rs ts y → ts ≡ r ∷ rest → r.y2 ≤ℤ y → Skipped rs rest y
skip_more rs [] r rest y s e l = cc
skip_more rs (q ∷ qs) r rest y s e l = let same : q ≡ r = cc in let others : qs ≡ rest = cc in subst (λ (us : List Rect). Skipped rs us y) others (record {
  is_bands = record { banded = s.is_bands.banded.2; range = s.is_bands.range.1 };
  same = λ x z p. s.same x z p ∙ ap (λ k. k || inside qs x z) (gone q x z (subst (λ (w : Rect). w.y2 ≤ℤ y) (sym same) l) p);
  part = λ w h. s.part w (inr h);
})
  where
    gone : (q : Rect) (x z : ℤ) → q.y2 ≤ℤ y → y ≤ℤ z → (in_lines q z && in_columns q x) ≡ false
    gone q x z h p = let k : in_lines q z ≡ false = grind (arith, ints) in rw k refl

band_start : (op : Operation) (a b c d : List Rect) (y : ℤ) → IsStart op a b y → LaterDown a c y → LaterDown b d y → BandWalk op a b c d [] [] (y -ℤ pos 1) y
band_start op a b c d y s k l = record {
  on_first = k;
  on_second = l;
  built = record {
    canonical = record { banded = tt; topped = λ r i. absurd i };
    range = tt;
    is_row = record { apart = tt; fits = tt };
    above = tt;
    low = inl refl;
    order = omega (arith, ints);
    right = λ x z p. and-false (int_le (y -ℤ pos 1) z) ∙ sym (s.nothing x z p);
    differs = λ h. refl;
  };
  low = s.low;
  high = s.high;
}

pub reaches_down_less : (rs : List Rect) (e m : ℤ) → ReachesDown rs e → m ≤ℤ e → ReachesDown rs m
reaches_down_less [] e m r l = tt
reaches_down_less (r ∷ rs) e m h l = omega (arith, ints)

pub high_down : (first second : List Rect) (e f m : ℤ) → Bounded first e → Bounded second f → both_empty first second ≡ false → IsLesser e f m → m ≤ℤ most
high_down [] [] e f m p q n l = absurd (true≢false n)
high_down (r ∷ rs) second e f m p q n l = omega (arith, ints)
high_down [] (r ∷ rs) e f m p q n l = omega (arith, ints)

pub band_step : (op : Operation) (a b first second out pending : List Rect) (top y : ℤ) → BandWalk op a b first second out pending top y
    → (one other : List Rect) (e f m e' f' m' : ℤ) → StretchDown first y one e → StretchDown second y other f → both_empty first second ≡ false → IsLesser e' f' m → e' ≡ e → f' ≡ f → m' ≡ m
    → (left right : List Rect) → LaterDown first left m' → LaterDown second right m'
    → (fresh out' pending' : List Rect) (top' : ℤ) → IsCombined op one other fresh → out' ≡ settled out pending fresh top y → pending' ≡ settled_row pending fresh → top' ≡ settled_top pending fresh top y
    → BandWalk op a b left right out' pending' top' m'
band_step op a b first second out pending top y w one other e f m e' f' m' s t some l ee ef em left right u v fresh out' pending' top' c eo ep et = rw (eo, ep, et, em) (record {
  on_first = later_down_then a first left y m w.on_first (omega (arith, ints, on)) (subst (LaterDown first left) em u);
  on_second = later_down_then b second right y m w.on_second (omega (arith, ints, on)) (subst (LaterDown second right) em v);
  built = built_on out pending fresh top y m (λ x z. answer op (inside a x z) (inside b x z)) w.built on w.low w.high c.is_row
      (λ x z g h. rw (w.on_first.same x z g, w.on_second.same x z g, s.steady x z g (omega (arith, ints, lesser.first)), t.steady x z g (omega (arith, ints, lesser.second))) (sym (c.right x)));
  low = omega (arith, ints, w.low, on);
  high = high_down first second e f m s.bounded t.bounded some lesser;
})
  where
    lesser : IsLesser e f m
    lesser = subst (λ k. IsLesser k f m) ee (subst (λ k. IsLesser e' k m) ef l)

    on : y <ℤ m
    on = row_further y e f m s.longer t.longer lesser

pub band_smaller : (first second one other : List Rect) (y e f m e' f' m' : ℤ) → StretchDown first y one e → StretchDown second y other f → both_empty first second ≡ false → IsLesser e' f' m → e' ≡ e → f' ≡ f → m' ≡ m
    → unsigned_abs (most -ℤ m') < unsigned_abs (most -ℤ y)
band_smaller first second one other y e f m e' f' m' s t some l ee ef em =
    rw em (row_smaller y m (row_further y e f m s.longer t.longer lesser) (high_down first second e f m s.bounded t.bounded some lesser))
  where
    lesser : IsLesser e f m
    lesser = subst (λ k. IsLesser k f m) ee (subst (λ k. IsLesser e' k m) ef l)

-- nothing comes of what is left
none : (op : Operation) (rs ss : List Rect) → is_done op rs ss ≡ true → (x z : ℤ) → answer op (inside rs x z) (inside ss x z) ≡ false
none Unite [] [] d x z = refl
none Unite [] (s ∷ ss) d x z = absurd (true≢false (sym d))
none Unite (r ∷ rs) ss d x z = absurd (true≢false (sym d))
none Subtract [] ss d x z = refl
none Subtract (r ∷ rs) ss d x z = absurd (true≢false (sym d))
none Intersect [] ss d x z = refl
none Intersect (r ∷ rs) [] d x z = and-false (inside (r ∷ rs) x z)
none Intersect (r ∷ rs) (s ∷ ss) d x z = absurd (true≢false (sym d))

pub no_answer : (op : Operation) (a b out : List Rect) → is_done op a b ≡ true → out ≡ [] → IsAnswer op a b out
no_answer op a b out d e = rw e (record {
  canonical = record { banded = tt; topped = λ r i. absurd i };
  range = tt;
  right = λ x z. sym (none op a b d x z);
})

pub band_done : (op : Operation) (a b first second out pending : List Rect) (top y : ℤ) → BandWalk op a b first second out pending top y → is_done op first second ≡ true → IsAnswer op a b (out ++ placed top y pending)
band_done op a b first second out pending top y w e = record {
  canonical = f.canonical;
  range = f.range;
  right = λ x z. by_lt_z z y (λ h. f.right x z h) (λ h. rw (above_line _ y x z f.above h, w.on_first.same x z h, w.on_second.same x z h) (sym (none op first second e x z)));
}
  where
    f : Flushed (out ++ placed top y pending) y (λ x z. answer op (inside a x z) (inside b x z))
    f = flushed out pending top y (λ x z. answer op (inside a x z) (inside b x z)) w.built w.high

-- one more rectangle of a row is placed
pub placed_at : (out line items pushed : List Rect) (n : ℕ) (t b : ℤ) (d : Rect) (x1 x2 : ℤ) → n < length line → items ≡ out ++ placed t b (take n line) → x1 ≡ (get_or line n d).x1 → x2 ≡ (get_or line n d).x2
    → pushed ≡ items ++ (rectangle x1 t x2 b ∷ []) → pushed ≡ out ++ placed t b (take (n + 1) line)
placed_at out line items pushed n t b d x1 x2 l e p q r = rw (r, e, append_assoc, p, q) (ap (λ k. out ++ k) (let h : n + 1 ≡ suc n = omega arith in rw h (go line n l)))
  where
    go : (line : List Rect) (n : ℕ) → n < length line → placed t b (take n line) ++ (rectangle (get_or line n d).x1 t (get_or line n d).x2 b ∷ []) ≡ placed t b (take (suc n) line)
    go [] n l = absurd (omega arith)
    go (q ∷ qs) zero l = refl
    go (q ∷ qs) (suc n) l = ap (λ k. rectangle q.x1 t q.x2 b ∷ k) (go qs n (omega arith))

-- the bands, cut below the first one
pub cut_none : (rs : List Rect) → length rs ≡ 0 → IsCut rs rs rs
cut_none [] none = record { whole = refl; cuts = refl }
cut_none (r ∷ rs) none = absurd (omega (arith, none))

-- the first band split off, as the lemmas above have it
split_of : (r : Rect) (rs below : List Rect) → CutsBand (r ∷ rs) below → Split (r ∷ (rs ++ below)) (r ∷ rs) below r.y1
split_of r rs below k = record { whole = refl; band = k.0; rest = k.1 }

pub row_none : (first below : List Rect) (y : ℤ) → length first ≡ 0 → CutsBand first below → y ≤ℤ most → StretchDown (first ++ below) y first (pos 4097)
row_none [] below y none k high = rw k (stretch_down_none y high)
row_none (r ∷ rs) below y none k high = absurd (omega (arith, none))

pub row_in : (first below : List Rect) (r : Rect) (rest : List Rect) (y : ℤ) → first ≡ r ∷ rest → IsBands (first ++ below) → CutsBand first below → AheadDown first y → r.y1 ≤ℤ y → StretchDown (first ++ below) y first r.y2
row_in [] below r rest y is i k a l = cc
row_in (q ∷ qs) below r rest y is i k a l = let same : q ≡ r = cc in
    subst (λ (s : Rect). StretchDown (q ∷ (qs ++ below)) y (q ∷ qs) s.y2) same (stretch_down_in q (qs ++ below) (q ∷ qs) below y i a (subst (λ (s : Rect). s.y1 ≤ℤ y) (sym same) l) (split_of q qs below k))

pub row_out : (first below : List Rect) (r : Rect) (rest : List Rect) (y : ℤ) → first ≡ r ∷ rest → IsBands (first ++ below) → y <ℤ r.y1 → StretchDown (first ++ below) y [] r.y1
row_out [] below r rest y is i l = cc
row_out (q ∷ qs) below r rest y is i l = let same : q ≡ r = cc in
    subst (λ (s : Rect). StretchDown (q ∷ (qs ++ below)) y [] s.y1) same (stretch_down_out q (qs ++ below) y i (subst (λ (s : Rect). y <ℤ s.y1) (sym same) l))

-- what is below the first band is bands
pub bands_below : (first below : List Rect) → IsBands (first ++ below) → IsBands below
bands_below first below i = record { banded = banded_right first below i.banded; range = all_right Fits first below i.range }

pub pass_more : (first below : List Rect) (r : Rect) (rest : List Rect) (y : ℤ) (next left : List Rect) → first ≡ r ∷ rest → IsBands (first ++ below) → CutsBand first below → ReachesDown first y → r.y2 ≤ℤ y → IsCut below next left → LaterDown (first ++ below) (next ++ left) y
pass_more [] below r rest y next left is i k a l c = cc
pass_more (q ∷ qs) below r rest y next left is i k a l c = let same : q ≡ r = cc in
    subst (λ (ts : List Rect). LaterDown (q ∷ (qs ++ below)) ts y) c.whole (later_down_more q (qs ++ below) (q ∷ qs) below y i a (subst (λ (s : Rect). s.y2 ≤ℤ y) (sym same) l) (split_of q qs below k))

-- the walk is over where no first band is left
pub over_whole : (af ab bf bb : List Rect) → CutsBand af ab → CutsBand bf bb → both_empty af bf ≡ both_empty (af ++ ab) (bf ++ bb)
over_whole [] ab [] bb k l = rw (k, l) refl
over_whole [] ab (s ∷ ss) bb k l = rw k refl
over_whole (r ∷ rs) ab bf bb k l = refl

pub done_whole : (op : Operation) (af ab bf bb : List Rect) → CutsBand af ab → CutsBand bf bb → is_done op af bf ≡ is_done op (af ++ ab) (bf ++ bb)
done_whole Unite af ab bf bb k l = over_whole af ab bf bb k l
done_whole Subtract [] ab bf bb k l = rw k refl
done_whole Subtract (r ∷ rs) ab bf bb k l = refl
done_whole Intersect [] ab bf bb k l = rw k refl
done_whole Intersect (r ∷ rs) ab [] bb k l = rw l refl
done_whole Intersect (r ∷ rs) ab (s ∷ ss) bb k l = refl

pub first_reaches : (first below : List Rect) (y : ℤ) → ReachesDown (first ++ below) y → CutsBand first below → ReachesDown first y
first_reaches [] below y a k = tt
first_reaches (r ∷ rs) below y a k = a

-- where a walk is that is to pass a line
pub reaches_line : (first below : List Rect) (e e' f' m : ℤ) → CutsBand first below → ReachesDown (first ++ below) e → e' ≡ e → IsLesser e' f' m → ReachesDown first m
reaches_line first below e e' f' m k r same l = first_reaches first below m (reaches_down_less (first ++ below) e m r (subst (λ (n : ℤ). m ≤ℤ n) same l.first)) k

pub reaches_line_too : (first below : List Rect) (f e' f' m : ℤ) → CutsBand first below → ReachesDown (first ++ below) f → f' ≡ f → IsLesser e' f' m → ReachesDown first m
reaches_line_too first below f e' f' m k r same l = first_reaches first below m (reaches_down_less (first ++ below) f m r (subst (λ (n : ℤ). m ≤ℤ n) same l.second)) k

-- the open row stands last in the list that is written
same_placed : (t b t' b' : ℤ) (ps ns : List Rect) → same_columns (placed t b ps) (placed t' b' ns) ≡ same_columns ps ns
same_placed t b t' b' [] [] = refl
same_placed t b t' b' [] (n ∷ ns) = refl
same_placed t b t' b' (p ∷ ps) [] = refl
same_placed t b t' b' (p ∷ ps) (n ∷ ns) = ap (λ k. int_eq p.x1 n.x1 && (int_eq p.x2 n.x2 && k)) (same_placed t b t' b' ps ns)

lowered_placed : (t b b' : ℤ) (ps : List Rect) → lowered b' (placed t b ps) ≡ placed t b' ps
lowered_placed t b b' [] = refl
lowered_placed t b b' (p ∷ ps) = ap (λ k. rectangle p.x1 t p.x2 b' ∷ k) (lowered_placed t b b' ps)

pub placing_start : (op : Operation) (a b c d cf cb df db : List Rect) (y : ℤ) → IsStart op a b y → LaterDown a c y → LaterDown b d y → IsCut c cf cb → IsCut d df db → Placing op a b (cf ++ cb) (df ++ db) [] 0 y
placing_start op a b c d cf cb df db y s k l i j = record { out = []; pending = []; top = y -ℤ pos 1; whole = refl; place = refl; walk = band_start op a b (cf ++ cb) (df ++ db) y s (subst (λ (rs : List Rect). LaterDown a rs y) i.whole k) (subst (λ (rs : List Rect). LaterDown b rs y) j.whole l) }

-- where the open row begins, and ends, once a row is added
pub placing_start_in : (op : Operation) (a b first second items added : List Rect) (start : ℕ) (y t u : ℤ) (S : ℤ → Bool) → Placing op a b first second items start y → Added items added t u S
    → (start ≤ length items) × (length items ≤ length added)
placing_start_in op a b first second items added start y t u S p d =
    (omega (arith, p.place, ap length p.whole, length_append p.out (placed p.top y p.pending)), omega (arith, ap length d.items, length_append items (placed t u d.fresh)))

pub placing_step : (op : Operation) (a b first second items : List Rect) (start : ℕ) (y : ℤ) → Placing op a b first second items start y
    → (one other : List Rect) (e f m e' f' m' : ℤ) → StretchDown first y one e → StretchDown second y other f → both_empty first second ≡ false → IsLesser e' f' m → e' ≡ e → f' ≡ f → m' ≡ m
    → (left right : List Rect) → LaterDown first left m' → LaterDown second right m'
    → (added items' : List Rect) (start' n : ℕ) → Added items added y m' (λ z. answer op (row one z) (row other z)) → n ≡ length items → items' ≡ joined added start n m' → start' ≡ joined_start added start n
    → Placing op a b left right items' start' m'
placing_step op a b first second items start y p one other e f m e' f' m' s t some l ee ef em left right u v added items' start' n d en ei es = by (same_columns p.pending d.fresh) refl
  where
    walk : BandWalk op a b left right (settled p.out p.pending d.fresh p.top y) (settled_row p.pending d.fresh) (settled_top p.pending d.fresh p.top y) m'
    walk = band_step op a b first second p.out p.pending p.top y p.walk one other e f m e' f' m' s t some l ee ef em left right u v d.fresh _ _ _ (record { is_row = d.is_row; right = d.right }) refl refl refl

    taken : take n added ≡ items
    taken = rw d.items (take_front items (placed y m' d.fresh) n (sym en))

    dropped : drop n added ≡ placed y m' d.fresh
    dropped = rw d.items (drop_front items (placed y m' d.fresh) n (sym en))

    row_before : drop start items ≡ placed p.top y p.pending
    row_before = rw p.whole (drop_front p.out (placed p.top y p.pending) start (sym p.place))

    before : take start items ≡ p.out
    before = rw p.whole (take_front p.out (placed p.top y p.pending) start (sym p.place))

    test : same_columns (drop start (take n added)) (drop n added) ≡ same_columns p.pending d.fresh
    test = rw (taken, dropped, row_before) (same_placed p.top y y m' p.pending d.fresh)

    by : (k : Bool) → same_columns p.pending d.fresh ≡ k → Placing op a b left right items' start' m'
    by true h = record {
      out = p.out;
      pending = p.pending;
      top = p.top;
      whole = ei ∙ joined_same;
      place = es ∙ (start_same ∙ p.place);
      walk = subst (λ k. BandWalk op a b left right (if k then p.out else (p.out ++ placed p.top y p.pending)) (if k then p.pending else d.fresh) (if k then p.top else y) m') h walk;
    }
      where
        joined_same : joined added start n m' ≡ p.out ++ placed p.top m' p.pending
        joined_same = rw (test ∙ h, taken, before, row_before) (ap (λ k. p.out ++ k) (lowered_placed p.top y m' p.pending))

        start_same : joined_start added start n ≡ start
        start_same = rw (test ∙ h) refl
    by false h = record {
      out = p.out ++ placed p.top y p.pending;
      pending = d.fresh;
      top = y;
      whole = ei ∙ (joined_other ∙ (d.items ∙ ap (λ k. k ++ placed y m' d.fresh) p.whole));
      place = es ∙ (start_other ∙ (en ∙ ap length p.whole));
      walk = subst (λ k. BandWalk op a b left right (if k then p.out else (p.out ++ placed p.top y p.pending)) (if k then p.pending else d.fresh) (if k then p.top else y) m') h walk;
    }
      where
        joined_other : joined added start n m' ≡ added
        joined_other = rw (test ∙ h) refl

        start_other : joined_start added start n ≡ n
        start_other = rw (test ∙ h) refl

pub placing_done : (op : Operation) (a b first second items : List Rect) (start : ℕ) (y : ℤ) → Placing op a b first second items start y → is_done op first second ≡ true → IsAnswer op a b items
placing_done op a b first second items start y p d = subst (IsAnswer op a b) (sym p.whole) (band_done op a b first second p.out p.pending p.top y p.walk d)

-- where one of the two is over, the bands of the other that begin further down stay as they are
pub record Rested (out : List Rect) (S : ℤ → ℤ → Bool) : Type 0 where
  pub canonical : IsCanonical out
  pub range : AllByRecursion Fits out
  pub right : (x z : ℤ) → inside out x z ≡ S x z

banded_under : (t : ℤ) (rs ss : List Rect) → IsBanded rs → IsBanded ss → AllByRecursion (λ r. r.y2 ≤ℤ t) rs → AllByRecursion (λ s. t <ℤ s.y1) ss → IsBanded (rs ++ ss)
banded_under t [] ss a b p q = b
banded_under t (r ∷ rs) ss a b p q = (a.0, all_append (Follows r) rs ss a.1 (all_weaker _ _ ss (λ s h. inr (omega (arith, ints, h, p.0))) q), banded_under t rs ss a.2 b p.1 q)

all_under : (rs : List Rect) (y : ℤ) → IsBanded rs → Under rs y → AllByRecursion (λ s. y <ℤ s.y1) rs
all_under [] y b u = tt
all_under (r ∷ rs) y b u = (u, all_weaker (Follows r) _ rs by b.1)
  where
    by : (s : Rect) → Follows r s → y <ℤ s.y1
    by s (inl f) = omega (arith, ints, f.0, u)
    by s (inr f) = omega (arith, ints, f, u, b.0.down)

rested : (out c rest : List Rect) (y : ℤ) (S : ℤ → ℤ → Bool) → Flushed out y S → LaterDown c rest y → IsRegion c → Under rest y → ((x z : ℤ) → y ≤ℤ z → S x z ≡ inside c x z) → Rested (out ++ rest) S
rested out c rest y S f l k u s = record {
  canonical = record {
    banded = banded_under y out rest f.canonical.banded l.is_bands.banded f.above under;
    topped = λ r i. by r (in_append r out rest i);
  };
  range = all_append Fits out rest f.range l.is_bands.range;
  right = λ x z. by_lt_z z y (λ h. old x z h ∙ f.right x z h) (λ h. new x z h ∙ sym (s x z h));
}
  where
    under : AllByRecursion (λ s. y <ℤ s.y1) rest
    under = all_under rest y l.is_bands.banded u

    old : (x z : ℤ) → z <ℤ y → inside (out ++ rest) x z ≡ inside out x z
    old x z h = rw (inside_append out rest x z, below_line rest y x z (all_weaker _ _ rest (λ s g. omega (arith, ints, g)) under) h) (or-false _)

    new : (x z : ℤ) → y ≤ℤ z → inside (out ++ rest) x z ≡ inside c x z
    new x z h = rw (inside_append out rest x z, above_line out y x z f.above h) (sym (l.same x z h))

    by : (r : Rect) → In r out ⊎ In r rest → IsTopped (out ++ rest) r
    by r (inl i) same = f.canonical.topped r i (λ x. sym (old x (r.y1 -ℤ pos 1) (omega (arith, ints, high, size.down))) ∙ (same x ∙ old x r.y1 (omega (arith, ints, high, size.down))))
      where
        high : r.y2 ≤ℤ y
        high = each (λ r. r.y2 ≤ℤ y) out r f.above i

        size : IsProper r
        size = proper out r f.canonical.banded i
    by r (inr i) same = k.canonical.topped r (l.part r i) (λ x. sym (new x (r.y1 -ℤ pos 1) (omega (arith, ints, low))) ∙ (same x ∙ new x r.y1 (omega (arith, ints, low))))
      where
        low : y <ℤ r.y1
        low = each (λ s. y <ℤ s.y1) rest r under i

pub placing_rest : (op : Operation) (a b first second items : List Rect) (start : ℕ) (y : ℤ) → Placing op a b first second items start y → IsRegion a → IsRegion b → is_done op first second ≡ false
    → (rest : List Rect) → IsRest first second rest y → IsAnswer op a b (items ++ rest)
placing_rest op a b first second items start y p k m d rest r = subst (λ (ts : List Rect). IsAnswer op a b (ts ++ rest)) (sym p.whole) (answer_of (by op p.walk d r))
  where
    whole : List Rect
    whole = p.out ++ placed p.top y p.pending

    f : (o : Operation) → BandWalk o a b first second p.out p.pending p.top y → Flushed whole y (λ x z. answer o (inside a x z) (inside b x z))
    f o w = flushed p.out p.pending p.top y (λ x z. answer o (inside a x z) (inside b x z)) w.built w.high

    gone : (c : List Rect) (ts : List Rect) → LaterDown c ts y → ts ≡ [] → (x z : ℤ) → y ≤ℤ z → inside c x z ≡ false
    gone c ts l e x z h = l.same x z h ∙ rw e refl

    on : (o : Operation) → ((q : Bool) → answer o q false ≡ q) → BandWalk o a b first second p.out p.pending p.top y → second ≡ [] → rest ≡ first → Under first y → Rested (whole ++ rest) (λ x z. answer o (inside a x z) (inside b x z))
    on o unit w e same u = rw same (rested whole a first y (λ x z. answer o (inside a x z) (inside b x z)) (f o w) w.on_first k u (λ x z h. rw (gone b second w.on_second e x z h) (unit (inside a x z))))

    without : (q : Bool) → answer Subtract q false ≡ q
    without true = refl
    without false = refl

    by : (o : Operation) → BandWalk o a b first second p.out p.pending p.top y → is_done o first second ≡ false → IsRest first second rest y → Rested (whole ++ rest) (λ x z. answer o (inside a x z) (inside b x z))
    by Unite w o (inl h) = on Unite or-false w h.0 h.1 h.2
    by Unite w o (inr h) = rw h.1 (rested whole b second y (λ x z. answer Unite (inside a x z) (inside b x z)) (f Unite w) w.on_second m h.2 (λ x z l. rw (gone a first w.on_first h.0 x z l) refl))
    by Subtract w o (inl h) = on Subtract without w h.0 h.1 h.2
    by Subtract w o (inr h) = absurd (true≢false (rw h.0 at o))
    by Intersect w o (inl h) = absurd (none_meets first (rw h.0 at o))
      where
        none_meets : (rs : List Rect) → is_done Intersect rs [] ≡ false → ⊥
        none_meets [] e = true≢false e
        none_meets (q ∷ qs) e = true≢false e
    by Intersect w o (inr h) = absurd (true≢false (rw h.0 at o))

    answer_of : Rested (whole ++ rest) (λ x z. answer op (inside a x z) (inside b x z)) → IsAnswer op a b (whole ++ rest)
    answer_of g = record { canonical = g.canonical; range = g.range; right = g.right }
