-- Sets of pixels, compared.
use Rattle.std.proofs.Common.{◌≡◌, ℕ, zero, suc, ◌<◌, ◌+◌, length, List, [], ◌∷◌, Bool, true, false, arith, refl, sym, ◌∙◌, ap, subst, slice_get, Some, inl, inr}
use Rattle.std.specs.Prelude.{ℤ, pos, negsuc, ◌&&◌, not, nat_lt, ◌↔◌, IsTrue}
use Rattle.std.specs.Ordering.{int_eq}
use Rattle.std.proofs.lemmas.Bool.{true≢false, cases_eq, cases_lt, le-ltb, lt-ltb, and_parts}
use Rattle.std.proofs.lemmas.Bool.Decides.{Decides-int_eq}
use Rattle.dri_rect.proofs.Regions.{same_rectangle}
use Rattle.dri_base.specs.declared.scene.Window.{Window}
use Rattle.dri_base.specs.declared.shape.Rect.{Rect}
use Rattle.dri_rect.specs.Pixels.{SamePixels, inside}
use Rattle.dri_model.specs.Counting.{all_below}
use Rattle.dri_model.specs.Stacks.{clips, is_touched, is_window, origin, same_bool, same_origin, same_set, top}
use Rattle.dri_clips.specs.Boards.{shows}
use Rattle.dri_clips.specs.Layouts.{IsAbsent}
use Rattle.dri_clips.specs.Mends.{Stands}
use Rattle.dri_clips.proofs.Walking.{never_top, top_pixel}

-- lists by places
pub same_by_get : {X : Type 0} (xs ys : List X) → length xs ≡ length ys → ((k : ℕ) → k < length xs → slice_get xs k ≡ slice_get ys k) → xs ≡ ys
same_by_get [] [] l f = refl
same_by_get [] (y ∷ ys) l f = absurd (omega arith)
same_by_get (x ∷ xs) [] l f = absurd (omega arith)
same_by_get (x ∷ xs) (y ∷ ys) l f =
    let first : Some x ≡ Some y = f 0 (omega arith) in
    let same : x ≡ y = cc in
    let rest = same_by_get xs ys (omega arith) (λ k b. f (suc k) (omega arith)) in
    (λ i. same i ∷ rest i)

pub so_far : {X : Type 0} (xs ys : List X) (i : ℕ) (x y : X) → ((k : ℕ) → k < i → slice_get xs k ≡ slice_get ys k) → slice_get xs i ≡ Some x → slice_get ys i ≡ Some y → x ≡ y → (k : ℕ) → k < i + 1 → slice_get xs k ≡ slice_get ys k
so_far xs ys i x y before a b e k below = elim (cases_eq k i) [
  | inl same ↦ rw same (a ∙ ap (λ z. Some z) e ∙ sym b)
  | inr other ↦ before k (omega arith)
]

-- tests of all numbers below
pub below_true : (p : ℕ → Bool) (n : ℕ) → ((k : ℕ) → k < n → p k ≡ true) → all_below p n ≡ true
below_true p zero f = refl
below_true p (suc n) f = rw (f n (omega arith)) (below_true p n (λ k b. f k (omega arith)))

below_each : (p : ℕ → Bool) (n : ℕ) → all_below p n ≡ true → (k : ℕ) → k < n → p k ≡ true
below_each p zero e k b = absurd (omega arith)
below_each p (suc n) e k b =
    let parts = and_parts (p n) (all_below p n) e in
    elim (cases_eq k n) [
      | inl same ↦ rw same (parts.0)
      | inr other ↦ below_each p n parts.1 k (omega arith)
    ]

bool_same : (a b : Bool) → a ≡ b → same_bool a b ≡ true
bool_same true b e = sym e
bool_same false b e = ap not (sym e)

bool_each : (a b : Bool) → same_bool a b ≡ true → a ≡ b
bool_each true true e = refl
bool_each true false e = absurd (true≢false (sym e))
bool_each false true e = absurd (true≢false (sym e))
bool_each false false e = refl

sets_same : (width height : ℕ) (f g : ℕ → ℕ → Bool) → ((x y : ℕ) → x < width → y < height → f x y ≡ g x y) → same_set width height f g ≡ true
sets_same width height f g h = below_true (λ x. all_below (λ y. same_bool (f x y) (g x y)) height) width (λ x a. below_true (λ y. same_bool (f x y) (g x y)) height (λ y b. bool_same (f x y) (g x y) (h x y a b)))

sets_each : (width height : ℕ) (f g : ℕ → ℕ → Bool) → same_set width height f g ≡ true → (x y : ℕ) → x < width → y < height → f x y ≡ g x y
sets_each width height f g e x y a b = bool_each (f x y) (g x y) (below_each (λ v. same_bool (f x v) (g x v)) height (below_each (λ u. all_below (λ v. same_bool (f u v) (g u v)) height) width e x a) y b)

pub decided : (r t : Bool) → (r ≡ true → t ≡ true) → (t ≡ true → r ≡ true) → r ≡ t
decided true t f g = sym (f refl)
decided false true f g = g refl
decided false false f g = refl

-- the window is in neither
pub same_absent : (width height n : ℕ) (old new : List Window) → IsAbsent n old → IsAbsent n new → true ≡ same_set width height (clips width height old n) (clips width height new n)
same_absent width height n old new a b = sym (sets_same width height (clips width height old n) (clips width height new n) (λ x y c d.
    let e : is_window n (top old x y) ≡ false = ap (is_window n) (sym (top_pixel old x y)) ∙ never_top n old a (pos x) (pos y) in
    let f : is_window n (top new x y) ≡ false = ap (is_window n) (sym (top_pixel new x y)) ∙ never_top n new b (pos x) (pos y) in
    rw (e, f) refl))

-- places off the screen
off : (width height n : ℕ) (ws : List Window) (x y : ℕ) → (nat_lt x width && nat_lt y height) ≡ false → clips width height ws n x y ≡ false
off width height n ws x y e = by (nat_lt x width) (nat_lt y height) e
  where
    by : (a b : Bool) → (a && b) ≡ false → (a && (b && is_window n (top ws x y))) ≡ false
    by true true f = absurd (true≢false f)
    by true false f = refl
    by false b f = refl

shown_same : (width height n : ℕ) (old new : List Window) → ((x y : ℕ) → x < width → y < height → clips width height old n x y ≡ clips width height new n x y) → (x y : ℤ) → shows width height old n x y ≡ shows width height new n x y
shown_same width height n old new f (pos x) (pos y) = elim (cases_lt x width) [
  | inl a ↦ elim (cases_lt y height) [
    | inl b ↦ f x y a b
    | inr b ↦ let e : (nat_lt x width && nat_lt y height) ≡ false = rw (lt-ltb x width a, le-ltb y height b) refl in off width height n old x y e ∙ sym (off width height n new x y e)
  ]
  | inr a ↦ let e : (nat_lt x width && nat_lt y height) ≡ false = rw (le-ltb x width a) refl in off width height n old x y e ∙ sym (off width height n new x y e)
]
shown_same width height n old new f (pos x) (negsuc y) = refl
shown_same width height n old new f (negsuc x) y = refl

pub same_clips : (width height n : ℕ) (old new : List Window) (was is : List Rect) (r : Bool) → ((x y : ℤ) → inside was x y ≡ shows width height old n x y) → ((x y : ℤ) → inside is x y ≡ shows width height new n x y) →
    (SamePixels was is → was ≡ is) → (IsTrue r ↔ (was ≡ is)) → r ≡ same_set width height (clips width height old n) (clips width height new n)
same_clips width height n old new was is r a b canonical tells = decided r (same_set width height (clips width height old n) (clips width height new n)) yes no
  where
    yes : r ≡ true → same_set width height (clips width height old n) (clips width height new n) ≡ true
    yes e = sets_same width height (clips width height old n) (clips width height new n) (λ x y c d. sym (a (pos x) (pos y)) ∙ ap (λ (rs : List Rect). inside rs (pos x) (pos y)) (tells.0 (told r e)) ∙ b (pos x) (pos y))
      where
        told : (t : Bool) → t ≡ true → IsTrue t
        told t f = f

    no : same_set width height (clips width height old n) (clips width height new n) ≡ true → r ≡ true
    no e = tells.1 (canonical (λ x y. a x y ∙ shown_same width height n old new (sets_each width height (clips width height old n) (clips width height new n) e) x y ∙ sym (b x y)))

-- a window that stands isn't touched; one whose list differs is
pub stands_untouched : (width height n : ℕ) (old new : List Window) → Stands width height old new n → false ≡ is_touched width height old new n
stands_untouched width height n old new is =
    let sets : same_set width height (clips width height old n) (clips width height new n) ≡ true = sets_same width height (clips width height old n) (clips width height new n) (λ x y a b. sym (is.clips (pos x) (pos y))) in
    let corners : same_origin (origin old n) (origin new n) ≡ true = subst (λ (o : ℤ × ℤ). same_origin (origin old n) o ≡ true) (sym is.unmoved) (own (origin old n)) in
    rw (sets, corners) refl
  where
    own : (o : ℤ × ℤ) → same_origin o o ≡ true
    own o = let a = (Decides-int_eq o.0 o.0).1 refl in let b = (Decides-int_eq o.1 o.1).1 refl in rw (a, b) refl

pub differs_touched : (width height n : ℕ) (old new : List Window) → false ≡ same_set width height (clips width height old n) (clips width height new n) → true ≡ is_touched width height old new n
differs_touched width height n old new e = rw (← e) refl

pub moved_touched : (width height n : ℕ) (old new : List Window) (r : Bool) → true ≡ same_set width height (clips width height old n) (clips width height new n) → r ≡ not (same_origin (origin old n) (origin new n)) → r ≡ is_touched width height old new n
moved_touched width height n old new r e f = rw (← e) f

-- rectangles
int_same : (x y : ℤ) → int_eq x y ≡ true → x ≡ y
int_same x y e = (Decides-int_eq x y).0 e

int_own : (x : ℤ) → int_eq x x ≡ true
int_own x = (Decides-int_eq x x).1 refl

pub rects_told : (a b : Rect) (t : Bool) → t ≡ (int_eq a.x1 b.x1 && (int_eq a.y1 b.y1 && (int_eq a.x2 b.x2 && int_eq a.y2 b.y2))) → IsTrue t ↔ (a ≡ b)
rects_told a b t e = (λ is. same (sym e ∙ is), λ is. e ∙ own is)
  where
    same : (int_eq a.x1 b.x1 && (int_eq a.y1 b.y1 && (int_eq a.x2 b.x2 && int_eq a.y2 b.y2))) ≡ true → a ≡ b
    same f =
        let p = and_parts (int_eq a.x1 b.x1) (int_eq a.y1 b.y1 && (int_eq a.x2 b.x2 && int_eq a.y2 b.y2)) f in
        let q = and_parts (int_eq a.y1 b.y1) (int_eq a.x2 b.x2 && int_eq a.y2 b.y2) p.1 in
        let r = and_parts (int_eq a.x2 b.x2) (int_eq a.y2 b.y2) q.1 in
        same_rectangle _ _ _ _ _ _ _ _ (int_same a.x1 b.x1 p.0) (int_same a.y1 b.y1 q.0) (int_same a.x2 b.x2 r.0) (int_same a.y2 b.y2 r.1)

    own : a ≡ b → (int_eq a.x1 b.x1 && (int_eq a.y1 b.y1 && (int_eq a.x2 b.x2 && int_eq a.y2 b.y2))) ≡ true
    own f = subst (λ (r : Rect). (int_eq a.x1 r.x1 && (int_eq a.y1 r.y1 && (int_eq a.x2 r.x2 && int_eq a.y2 r.y2))) ≡ true) f (rw (int_own a.x1, int_own a.y1, int_own a.x2, int_own a.y2) refl)
