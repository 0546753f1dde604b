-- Lists of rectangles, gone through from the first one on, and rectangles that lie on the screen.
use Rattle.std.proofs.Common.{◌≡◌, ◌<◌, ◌≤◌, ◌≤ℤ◌, ◌<ℤ◌, ◌-ℤ◌, ℕ, zero, suc, ◌-◌, ℤ, pos, negsuc, List, [], ◌∷◌, take, length, Bool, true, false, ◌&&◌, ◌||◌, nat_lt, nat_le, int_lt, int_le, Some, slice_get, slice_index_or, refl, ap, sym, subst, arith, AllPairs}
use Rattle.std.specs.List.{AllByRecursion}
use Rattle.std.specs.Prelude.{unsigned_abs}
use Rattle.std.proofs.lemmas.Bool.Decides.{nat_tests}
use Rattle.std.proofs.lemmas.Int.{ints}
use Rattle.dri_base.specs.declared.shape.ClipRect.{ClipRect}
use Rattle.dri_base.specs.declared.shape.Rect.{Rect}
use Rattle.dri_base.specs.Planes.{in_rect}
use Rattle.dri_plane.specs.Grids.{IsInside}
use Rattle.dri_rect.specs.Pixels.{inside, has_pixel, IsProper, IsApart}
use Rattle.dri_draw.specs.Drawing.{has_place}
use Rattle.dri_clips.specs.Gains.{IsRectOnScreen, clip_rect}

-- an item that is there
pub item_is : {A : Type 0} (xs : List A) (i : ℕ) (x d : A) → slice_get xs i ≡ Some x → slice_index_or xs i d ≡ x
item_is [] i x d e = grind (arith, nat_tests)
item_is (y ∷ ys) zero x d e = grind (arith, nat_tests)
item_is (y ∷ ys) (suc i) x d e = item_is ys i x d e

pub item_below : {A : Type 0} (xs : List A) (i : ℕ) (x : A) → slice_get xs i ≡ Some x → i < length xs
item_below [] i x e = grind (arith, nat_tests)
item_below (y ∷ ys) zero x e = omega arith
item_below (y ∷ ys) (suc i) x e = let h = item_below ys i x e in omega arith

-- all items
pub take_whole : {A : Type 0} (xs : List A) (n : ℕ) → length xs ≤ n → take n xs ≡ xs
take_whole [] zero le = refl
take_whole [] (suc n) le = refl
take_whole (x ∷ xs) zero le = grind (arith, nat_tests)
take_whole (x ∷ xs) (suc n) le = ap (λ ys. x ∷ ys) (take_whole xs n (omega arith))

-- the pixels of one rectangle more
pub inside_more : (rs : List Rect) (i : ℕ) (r : Rect) (x y : ℤ) → slice_get rs i ≡ Some r → inside (take (suc i) rs) x y ≡ (inside (take i rs) x y || has_pixel r x y)
inside_more [] i r x y e = grind (arith, nat_tests)
inside_more (q ∷ rs) zero r x y e = grind (arith, nat_tests)
inside_more (q ∷ rs) (suc i) r x y e = rw (inside_more rs i r x y e) (or_assoc (has_pixel q x y) (inside (take i rs) x y) (has_pixel r x y))
  where
    or_assoc : (a b c : Bool) → (a || (b || c)) ≡ ((a || b) || c)
    or_assoc true b c = refl
    or_assoc false b c = refl

-- a rectangle's pixel is one of the list
pub inside_at : (rs : List Rect) (i : ℕ) (r : Rect) (x y : ℤ) → slice_get rs i ≡ Some r → has_pixel r x y ≡ true → inside rs x y ≡ true
inside_at [] i r x y e h = grind (arith, nat_tests)
inside_at (q ∷ rs) zero r x y e h = grind (arith, nat_tests)
inside_at (q ∷ rs) (suc i) r x y e h = rw (inside_at rs i r x y e h) (or_true (has_pixel q x y))
  where
    or_true : (a : Bool) → (a || true) ≡ true
    or_true true = refl
    or_true false = refl

-- what holds of all holds of the one
pub all_at : (P : Rect → Type 0) (rs : List Rect) (i : ℕ) (r : Rect) → AllByRecursion P rs → slice_get rs i ≡ Some r → P r
all_at P [] i r all e = grind (arith, nat_tests)
all_at P (q ∷ rs) zero r all e = subst P (some_is q r e) all.0
  where
    some_is : (a b : Rect) → Some a ≡ Some b → a ≡ b
    some_is a b e = grind (arith, nat_tests)
all_at P (q ∷ rs) (suc i) r all e = all_at P rs i r all.1 e

-- of rectangles apart, none before one has a pixel of it
pub none_before : (rs : List Rect) (i : ℕ) (r : Rect) (x y : ℤ) (n : ℕ) → ((j : ℕ) (q : Rect) → j < i → slice_get rs j ≡ Some q → (has_pixel q x y && has_pixel r x y) ≡ false) →
    has_pixel r x y ≡ true → n ≤ i → inside (take n rs) x y ≡ false
none_before [] i r x y zero apart h le = refl
none_before [] i r x y (suc n) apart h le = refl
none_before (q ∷ rs) i r x y zero apart h le = refl
none_before (q ∷ rs) i r x y (suc n) apart h le =
    both_false (has_pixel q x y) (inside (take n rs) x y) (has_pixel r x y) (apart 0 q (omega arith) refl) h
    (none_before rs (i - 1) r x y n (λ j p lt e. apart (suc j) p (omega arith) e) h (omega arith))
  where
    both_false : (a b c : Bool) → (a && c) ≡ false → c ≡ true → b ≡ false → (a || b) ≡ false
    both_false true b c ac ct bf = grind (arith, nat_tests)
    both_false false b c ac ct bf = bf

pub apart_at : (rs : List Rect) (i : ℕ) (r : Rect) (x y : ℤ) → AllPairs IsApart rs → slice_get rs i ≡ Some r → has_pixel r x y ≡ true → inside (take i rs) x y ≡ false
apart_at rs i r x y apart e h =
    none_before rs i r x y i (λ j q lt f. subst (λ (p : Rect). (has_pixel p x y && has_pixel r x y) ≡ false) (item_is rs j q r f)
    (subst (λ (p : Rect). (has_pixel (slice_index_or rs j r) x y && has_pixel p x y) ≡ false) (item_is rs i r r e) (apart j i r lt (item_below rs i r e) x y))) h (omega arith)

-- the pixels of the screen, as places
abbrev pub on_screen : ℕ → ℕ → ℕ → ℕ → Bool
on_screen width height x y = nat_lt x width && nat_lt y height

pub place_on : (width height : ℕ) (x y : ℤ) → has_place (on_screen width height) x y ≡ true → (pos 0 ≤ℤ x) × (x <ℤ pos width) × (pos 0 ≤ℤ y) × (y <ℤ pos height)
place_on width height (pos x) (pos y) h = grind (arith, nat_tests)
place_on width height (pos x) (negsuc y) h = grind (arith, nat_tests)
place_on width height (negsuc x) (pos y) h = grind (arith, nat_tests)
place_on width height (negsuc x) (negsuc y) h = grind (arith, nat_tests)

-- a proper rectangle has its first and its last pixel
pub first_pixel : (r : Rect) → IsProper r → has_pixel r r.x1 r.y1 ≡ true
first_pixel r p = let a = p.across in let b = p.down in grind (arith, nat_tests)

pub last_pixel : (r : Rect) → IsProper r → has_pixel r (r.x2 -ℤ pos 1) (r.y2 -ℤ pos 1) ≡ true
last_pixel r p = let a = p.across in let b = p.down in grind (arith, nat_tests)

-- proper rectangles whose pixels all lie on the screen lie on it
pub shown_at : (width height : ℕ) (rs : List Rect) (i : ℕ) (r : Rect) → AllByRecursion IsProper rs → ((x y : ℤ) → inside rs x y ≡ true → has_place (on_screen width height) x y ≡ true) →
    slice_get rs i ≡ Some r → IsRectOnScreen width height r
shown_at width height rs i r proper within e =
    let p = all_at IsProper rs i r proper e in
    let first = place_on width height r.x1 r.y1 (within r.x1 r.y1 (inside_at rs i r r.x1 r.y1 e (first_pixel r p))) in
    let last = place_on width height (r.x2 -ℤ pos 1) (r.y2 -ℤ pos 1) (within (r.x2 -ℤ pos 1) (r.y2 -ℤ pos 1) (inside_at rs i r (r.x2 -ℤ pos 1) (r.y2 -ℤ pos 1) e (last_pixel r p))) in
    record {
      left = first.0;
      start = omega (arith, ints, p.across);
      right = omega (arith, ints, last.1);
      top = first.2;
      head = omega (arith, ints, p.down);
      bottom = omega (arith, ints, last.3);
    }

-- the two rectangles are one
pub record IsSameRect (r : Rect) (c : ClipRect) : Type 0 where
  pub left : pos c.x1 ≡ r.x1
  pub top : pos c.y1 ≡ r.y1
  pub right : pos c.x2 ≡ r.x2
  pub bottom : pos c.y2 ≡ r.y2

-- a rectangle of the screen is the card's
pub same_rect : (width height : ℕ) (r : Rect) (c : ClipRect) → IsRectOnScreen width height r → c ≡ clip_rect r → IsSameRect r c
same_rect width height r c shown is = subst (IsSameRect r) (sym is) (record {
  left = counted r.x1 shown.left;
  top = counted r.y1 shown.top;
  right = counted r.x2 (omega (arith, ints, shown.left, shown.start));
  bottom = counted r.y2 (omega (arith, ints, shown.top, shown.head));
})
  where
    counted : (x : ℤ) → pos 0 ≤ℤ x → pos (unsigned_abs x) ≡ x
    counted (pos x) l = refl
    counted (negsuc x) l = grind (arith, nat_tests)

-- the card's rectangle has the same pixels, and lies on the card
pub same_pixels : (r : Rect) (c : ClipRect) (x y : ℕ) → IsSameRect r c → in_rect c x y ≡ has_pixel r (pos x) (pos y)
same_pixels r c x y same = rw (← same.left, ← same.right, ← same.top, ← same.bottom) (pixels c.x1 c.x2 c.y1 c.y2)
  where
    pixels : (x1 x2 y1 y2 : ℕ) → ((nat_le x1 x && nat_lt x x2) && (nat_le y1 y && nat_lt y y2)) ≡ ((int_le (pos y1) (pos y) && int_lt (pos y) (pos y2)) && (int_le (pos x1) (pos x) && int_lt (pos x) (pos x2)))
    pixels x1 x2 y1 y2 = grind (arith, nat_tests)

pub same_inside : (r : Rect) (c : ClipRect) (width height : ℕ) → IsSameRect r c → IsRectOnScreen width height r → IsInside c width height
same_inside r c width height same shown = record {
  columns = omega (arith, ints, same.left, same.right, shown.start);
  right = omega (arith, ints, same.right, shown.right);
  rows = omega (arith, ints, same.top, same.bottom, shown.head);
  bottom = omega (arith, ints, same.bottom, shown.bottom);
}

-- a rectangle of a screen of at most 1,024 by 1,024
pub shown_small : (width height : ℕ) (r : Rect) → width ≤ 1024 → height ≤ 1024 → IsRectOnScreen width height r → IsRectOnScreen 1024 1024 r
shown_small width height r wide high shown = record {
  left = shown.left;
  start = shown.start;
  right = omega (arith, ints, shown.right, wide);
  top = shown.top;
  head = shown.head;
  bottom = omega (arith, ints, shown.bottom, high);
}
