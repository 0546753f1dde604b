-- Regions: alone, moved, and by the walk.
use Rattle.std.proofs.Common.{◌≡◌, ℕ, zero, suc, ◌<◌, ◌+◌, length, get_or, take, List, [], ◌∷◌, ◌++◌, Bool, true, false, arith, refl, sym, ◌∙◌, inl, inr, ap, subst}
use Rattle.std.specs.Prelude.{ℤ, pos, ◌<ℤ◌, ◌≤ℤ◌, ◌-ℤ◌, ◌+ℤ◌, ◌⊎◌, ◌&&◌}
use Rattle.std.specs.List.{AllByRecursion}
use Rattle.std.proofs.lemmas.Int.{ints}
use Rattle.std.proofs.lemmas.Bool.{true≢false}
use Rattle.std.proofs.Math.Bool.{or-false}
use Rattle.dri_base.proofs.Shifts.{le_moved, lt_moved}
use Rattle.dri_base.specs.declared.shape.Rect.{Rect}
use Rattle.dri_rect.proofs.Unique.{found}
use Rattle.dri_rect.specs.Pixels.{In, in_columns, in_lines, has_pixel, inside, IsInRange, IsProper, Follows, IsBanded, StaysInRange, SameLine, IsTopped, moved, shift}
use Rattle.dri_rect.specs.Walk.{Fits, IsRegion, IsBands, rectangle, Movable}

pub bands : (rs : List Rect) → IsRegion rs → IsBands rs
bands rs r = record { banded = r.canonical.banded; range = r.range }

pub one_region : (r : Rect) → Fits r → r.x1 <ℤ r.x2 → r.y1 <ℤ r.y2 → IsRegion (r ∷ [])
one_region r w a d = record {
  canonical = record { banded = (record { across = a; down = d }, tt, tt); topped = λ s i same. by s i same };
  range = (record { left = w.left; right = w.right; top = w.top; bottom = w.bottom }, tt);
}
  where
    here : (in_lines r r.y1 && in_columns r r.x1) ≡ true
    here = grind (arith, ints, a.lt, d.lt)

    above : in_lines r (r.y1 -ℤ pos 1) ≡ false
    above = grind (arith, ints)

    by : (s : Rect) → In s (r ∷ []) → IsTopped (r ∷ []) s
    by s (inr i) same = absurd i
    by s (inl e) same = true≢false (sym (rw here refl) ∙ (sym (again r.x1) ∙ rw above refl))
      where
        again : (x : ℤ) → inside (r ∷ []) x (r.y1 -ℤ pos 1) ≡ inside (r ∷ []) x r.y1
        again x = subst (λ (q : Rect). inside (r ∷ []) x (q.y1 -ℤ pos 1) ≡ inside (r ∷ []) x q.y1) e (same x)

-- a rectangle without a column, or without a line, has no pixel
pub no_pixels : (r : Rect) → ((r.x2 ≤ℤ r.x1) ⊎ (r.y2 ≤ℤ r.y1)) → (x y : ℤ) → false ≡ has_pixel r x y
no_pixels r (inl h) x y = let k : in_columns r x ≡ false = grind (arith, ints) in rw k (by (in_lines r y))
  where
    by : (b : Bool) → false ≡ (b && false)
    by true = refl
    by false = refl
no_pixels r (inr h) x y = let k : in_lines r y ≡ false = grind (arith, ints) in rw k refl

-- the pixels of one rectangle
pub one_pixels : (r : Rect) (x y : ℤ) → inside (r ∷ []) x y ≡ has_pixel r x y
one_pixels r x y = or-false (has_pixel r x y)

-- numbers in range, with and without a pixel
pub fits_range : (r : Rect) → IsProper r → Fits r → IsInRange r
fits_range r p f = record {
  left = (f.left, omega (arith, ints, p.across, f.right));
  top = (f.top, omega (arith, ints, p.down, f.bottom));
  right = (omega (arith, ints, p.across, f.left), f.right);
  bottom = (omega (arith, ints, p.down, f.top), f.bottom);
}

-- moved
pub inside_moved : (dx dy : ℤ) (rs : List Rect) (x y : ℤ) → inside (moved dx dy rs) x y ≡ inside rs (x -ℤ dx) (y -ℤ dy)
inside_moved dx dy [] x y = refl
inside_moved dx dy (r ∷ rs) x y = rw (le_moved r.y1 y dy, lt_moved r.y2 y dy, le_moved r.x1 x dx, lt_moved r.x2 x dx, inside_moved dx dy rs x y) refl

follows_moved : (dx dy : ℤ) (r : Rect) (rs : List Rect) → AllByRecursion (Follows r) rs → AllByRecursion (Follows (rectangle (r.x1 +ℤ dx) (r.y1 +ℤ dy) (r.x2 +ℤ dx) (r.y2 +ℤ dy))) (moved dx dy rs)
follows_moved dx dy r [] a = tt
follows_moved dx dy r (s ∷ ss) a = (by a.0, follows_moved dx dy r ss a.1)
  where
    by : Follows r s → Follows (rectangle (r.x1 +ℤ dx) (r.y1 +ℤ dy) (r.x2 +ℤ dx) (r.y2 +ℤ dy)) (rectangle (s.x1 +ℤ dx) (s.y1 +ℤ dy) (s.x2 +ℤ dx) (s.y2 +ℤ dy))
    by (inl f) = inl (ap (λ k. k +ℤ dy) f.0, ap (λ k. k +ℤ dy) f.1, omega (arith, ints, f.2))
    by (inr f) = inr (omega (arith, ints, f))

banded_moved : (dx dy : ℤ) (rs : List Rect) → IsBanded rs → IsBanded (moved dx dy rs)
banded_moved dx dy [] b = tt
banded_moved dx dy (r ∷ rs) b = (record { across = omega (arith, ints, b.0.across); down = omega (arith, ints, b.0.down) }, follows_moved dx dy r rs b.1, banded_moved dx dy rs b.2)

was : (dx dy : ℤ) (rs : List Rect) (r : Rect) → In r (moved dx dy rs) → (s : Rect) × In s rs × (r.y1 ≡ s.y1 +ℤ dy)
was dx dy [] r i = absurd i
was dx dy (s ∷ ss) r (inl e) = (s, inl refl, ap (λ (q : Rect). q.y1) e)
was dx dy (s ∷ ss) r (inr i) = let h = was dx dy ss r i in (h.0, inr h.1, h.2)

pub moved_region : (dx dy : ℤ) (rs : List Rect) → IsRegion rs → AllByRecursion Fits (moved dx dy rs) → IsRegion (moved dx dy rs)
moved_region dx dy rs g a = record {
  canonical = record { banded = banded_moved dx dy rs g.canonical.banded; topped = λ r i same. by r (was dx dy rs r i) same };
  range = a;
}
  where
    by : (r : Rect) → (s : Rect) × In s rs × (r.y1 ≡ s.y1 +ℤ dy) → SameLine (moved dx dy rs) (r.y1 -ℤ pos 1) r.y1 → ⊥
    by r h same = g.canonical.topped h.0 h.1 (λ x. line x)
      where
        line : (x : ℤ) → inside rs x (h.0.y1 -ℤ pos 1) ≡ inside rs x h.0.y1
        line x =
            let p : (x +ℤ dx) -ℤ dx ≡ x = omega (arith, ints) in
            let q : (r.y1 -ℤ pos 1) -ℤ dy ≡ h.0.y1 -ℤ pos 1 = omega (arith, ints, h.2) in
            let t : r.y1 -ℤ dy ≡ h.0.y1 = omega (arith, ints, h.2) in
            subst (λ k. inside rs k (h.0.y1 -ℤ pos 1) ≡ inside rs k h.0.y1) p
            (subst (λ k. inside rs ((x +ℤ dx) -ℤ dx) k ≡ inside rs ((x +ℤ dx) -ℤ dx) h.0.y1) q
            (subst (λ k. inside rs ((x +ℤ dx) -ℤ dx) ((r.y1 -ℤ pos 1) -ℤ dy) ≡ inside rs ((x +ℤ dx) -ℤ dx) k) t
            (sym (inside_moved dx dy rs (x +ℤ dx) (r.y1 -ℤ pos 1)) ∙ (same (x +ℤ dx) ∙ inside_moved dx dy rs (x +ℤ dx) r.y1))))

pub all_at : (P : Rect → Type 0) (rs : List Rect) (n : ℕ) (d : Rect) → AllByRecursion P rs → n < length rs → P (get_or rs n d)
all_at P [] n d a l = absurd (omega arith)
all_at P (r ∷ rs) zero d a l = a.0
all_at P (r ∷ rs) (suc n) d a l = all_at P rs n d a.1 (omega arith)

pub movable : (dx dy : ℤ) (rs : List Rect) → IsBanded rs → AllByRecursion Fits (moved dx dy rs) → AllByRecursion (Movable dx dy) rs
movable dx dy [] b a = tt
movable dx dy (r ∷ rs) b a = (record { size = b.0; range = a.0 }, movable dx dy rs b.2 a.1)

pub moved_at : (dx dy : ℤ) (rs items pushed : List Rect) (n : ℕ) (d one : Rect) → n < length rs → items ≡ moved dx dy (take n rs) → one ≡ shift dx dy (get_or rs n d) → pushed ≡ items ++ (one ∷ []) → pushed ≡ moved dx dy (take (n + 1) rs)
moved_at dx dy rs items pushed n d one l e o p = rw (p, e, o) (let h : n + 1 ≡ suc n = omega arith in rw h (go rs n l))
  where
    go : (rs : List Rect) (n : ℕ) → n < length rs → moved dx dy (take n rs) ++ (shift dx dy (get_or rs n d) ∷ []) ≡ moved dx dy (take (suc n) rs)
    go [] n l = absurd (omega arith)
    go (q ∷ qs) zero l = refl
    go (q ∷ qs) (suc n) l = ap (λ k. shift dx dy q ∷ k) (go qs n (omega arith))

pub same_rectangle : (a b c d e f g h : ℤ) → a ≡ e → b ≡ f → c ≡ g → d ≡ h → rectangle a b c d ≡ rectangle e f g h
same_rectangle a b c d e f g h p q r s = rw (p, q, r, s) refl

-- where each pixel stays in range, each rectangle does
pub stays : (dx dy : ℤ) (rs : List Rect) → IsBanded rs → StaysInRange dx dy rs → AllByRecursion Fits (moved dx dy rs)
stays dx dy rs b k = go rs b (λ r i. i) where
  at : (r : Rect) → IsProper r → In r rs → Fits (shift dx dy r)
  at r p i =
      let low = k r.x1 r.y1 (found rs r r.x1 r.y1 i (record { left = omega (arith, ints); right = p.across; top = omega (arith, ints); bottom = p.down })) in
      let high = k (r.x2 -ℤ pos 1) (r.y2 -ℤ pos 1) (found rs r (r.x2 -ℤ pos 1) (r.y2 -ℤ pos 1) i (record { left = omega (arith, ints, p.across); right = omega (arith, ints); top = omega (arith, ints, p.down); bottom = omega (arith, ints) })) in
      record { left = low.0; right = omega (arith, ints, high.1); top = low.2; bottom = omega (arith, ints, high.3) }

  go : (ts : List Rect) → IsBanded ts → ((r : Rect) → In r ts → In r rs) → AllByRecursion Fits (moved dx dy ts)
  go [] c f = tt
  go (t ∷ ts) c f = (at t c.0 (f t (inl refl)), go ts c.2 (λ r i. f r (inr i)))
