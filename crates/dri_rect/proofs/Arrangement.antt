-- How the rectangles of a region stand.
use Rattle.std.proofs.Common.{zero, suc, List, [], ◌∷◌, arith, sym, inl, inr}
use Rattle.std.specs.Prelude.{◌&&◌}
use Rattle.std.specs.List.{AllByRecursion, AllPairs}
use Rattle.std.proofs.lemmas.Int.{ints}
use Rattle.std.proofs.lemmas.Bool.{and_parts}
use Rattle.dri_base.specs.declared.shape.Rect.{Rect}
use Rattle.dri_rect.specs.Pixels.{has_pixel, IsInRange, IsProper, Follows, IsBanded, ComesBefore, IsApart}
use Rattle.dri_rect.specs.Walk.{Fits}
use Rattle.dri_rect.proofs.Unique.{Has, tested, not_true}
use Rattle.dri_rect.proofs.Regions.{all_at, fits_range}

-- pairs of a longer list
pairs_more : (R : Rect → Rect → Type 0) (r : Rect) (rs : List Rect) → AllByRecursion (R r) rs → AllPairs R rs → AllPairs R (r ∷ rs)
pairs_more R r rs first others zero zero d up below = absurd (omega arith)
pairs_more R r rs first others zero (suc j) d up below = all_at (R r) rs j d first (omega arith)
pairs_more R r rs first others (suc i) zero d up below = absurd (omega arith)
pairs_more R r rs first others (suc i) (suc j) d up below = others i j d (omega arith) (omega arith)

-- what follows of bands, rectangle by rectangle and pair by pair
all_follow : (Q : Rect → Type 0) (r : Rect) (rs : List Rect) → ((s : Rect) → Follows r s → Q s) → AllByRecursion (Follows r) rs → AllByRecursion Q rs
all_follow Q r [] f a = tt
all_follow Q r (s ∷ ss) f a = (f s a.0, all_follow Q r ss f a.1)

banded_pairs : (R : Rect → Rect → Type 0) → ((r s : Rect) → IsProper r → Follows r s → R r s) → (rs : List Rect) → IsBanded rs → AllPairs R rs
banded_pairs R each [] b = λ i j d up below. absurd (omega arith)
banded_pairs R each (r ∷ rs) b = pairs_more R r rs (all_follow (R r) r rs (λ s f. each r s b.0 f) b.1) (banded_pairs R each rs b.2)

before : (r s : Rect) → IsProper r → Follows r s → ComesBefore r s
before r s p (inl f) = inr (sym f.0, omega (arith, ints, p.across, f.2))
before r s p (inr f) = inl (omega (arith, ints, p.down))

apart : (r s : Rect) → IsProper r → Follows r s → IsApart r s
apart r s p f x y = not_true (has_pixel r x y && has_pixel s x y) (λ both. clash f (tested r x y (and_parts (has_pixel r x y) (has_pixel s x y) both).0) (tested s x y (and_parts (has_pixel r x y) (has_pixel s x y) both).1))
  where
    clash : Follows r s → Has r x y → Has s x y → ⊥
    clash (inl g) h k = omega (arith, ints, g.2, h.right, k.left)
    clash (inr g) h k = omega (arith, ints, g, h.bottom, k.top)

-- by y1, then by x1
pub in_order : (rs : List Rect) → IsBanded rs → AllPairs ComesBefore rs
in_order = banded_pairs ComesBefore before

-- no pixel is in two
pub no_overlap : (rs : List Rect) → IsBanded rs → AllPairs IsApart rs
no_overlap = banded_pairs IsApart apart

-- none is empty
pub all_proper : (rs : List Rect) → IsBanded rs → AllByRecursion IsProper rs
all_proper [] b = tt
all_proper (r ∷ rs) b = (b.0, all_proper rs b.2)

-- all are in range
pub all_in_range : (rs : List Rect) → IsBanded rs → AllByRecursion Fits rs → AllByRecursion IsInRange rs
all_in_range [] b f = tt
all_in_range (r ∷ rs) b f = (fits_range r b.0 f.0, all_in_range rs b.2 f.1)
