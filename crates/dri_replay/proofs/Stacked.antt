-- Paints one after the other, and what a new stack leaves.
use Rattle.std.proofs.Common.{◌≡◌, ◌<◌, ◌≤◌, ℕ, zero, suc, ◌+◌, ℤ, pos, ◌-ℤ◌, List, [], ◌∷◌, take, length, Bool, true, false, ◌&&◌, if◌then◌else◌, Option, Some, None, IfSome, slice_index_or, refl, ◌∙◌, sym, ap, subst, arith, All, AllPairs}
use Rattle.std.proofs.lemmas.Bool.Decides.{nat_tests}
use Rattle.std.proofs.lemmas.Int.{ints}
use Rattle.std.specs.Option.{unwrap_or}
use Rattle.dri_base.specs.declared.colour.Rgb.{Rgb}
use Rattle.dri_base.specs.declared.scene.Window.{Window}
use Rattle.dri_base.specs.declared.shape.ClipRect.{ClipRect}
use Rattle.dri_base.specs.Planes.{in_rect}
use Rattle.dri_card.specs.Drawing.{IsCarry, painted as painted_in}
use Rattle.dri_base.specs.Rectangles.{AreApart, in_rects}
use Rattle.dri_clips.specs.Paints.{ArePaints, IsCarried, StaysOnScreen, filled, paint_at}
use Rattle.dri_clips.specs.declared.touched.Carry.{Carry}
use Rattle.dri_clips.specs.declared.touched.Paint.{Paint}
use Rattle.dri_clips.specs.declared.touched.Touched.{Touched}
use Rattle.dri_replay.specs.Makings.{CanCarry, CanShow, carried_along}
use Rattle.dri_model.specs.Stacks.{carried, carried_from, is_displaced, painted, pixel_in, same_top, top}
use Rattle.dri_model.proofs.Moves.{carry_is, carry_then_paint}
use Rattle.dri_plane.specs.Moves.{StaysInside}

-- one paint more
filled_more : (ps : List Paint) (i : ℕ) (d : Paint) (front : ℕ → ℕ → Rgb) (x y : ℕ) → i < length ps →
    painted_in (slice_index_or ps i d).rect (slice_index_or ps i d).colour (filled (take i ps) front) x y ≡ filled (take (suc i) ps) front x y
filled_more [] i d front x y lt = absurd (omega arith)
filled_more (p ∷ ps) zero d front x y lt = refl
filled_more (p ∷ ps) (suc i) d front x y lt = filled_more ps i d (λ a b. if in_rect p.rect a b then p.colour else front a b) x y (omega arith)

pub filled_next : (ps : List Paint) (i : ℕ) (d : Paint) (front : ℕ → ℕ → Rgb) → i < length ps →
    (x y : ℕ) → painted_in (slice_index_or ps i d).rect (slice_index_or ps i d).colour (filled (take i ps) front) x y ≡ filled (take (i + 1) ps) front x y
filled_next ps i d front lt x y = subst (λ n. painted_in (slice_index_or ps i d).rect (slice_index_or ps i d).colour (filled (take i ps) front) x y ≡ filled (take n ps) front x y) (next i) (filled_more ps i d front x y lt)
  where
    next : (n : ℕ) → suc n ≡ n + 1
    next n = omega arith

-- where no paint has the pixel it isn't painted
unpainted : (ps : List Paint) (x y : ℕ) → ((k : ℕ) (d : Paint) → k < length ps → in_rect (slice_index_or ps k d).rect x y ≡ false) → paint_at ps x y ≡ None
unpainted [] x y none = refl
unpainted (p ∷ ps) x y none = rw (none 0 p (omega arith)) (unpainted ps x y (λ k d lt. none (suc k) d (omega arith)))

-- the colour that was painted, or the one before
filled_at : (ps : List Paint) (front : ℕ → ℕ → Rgb) (x y : ℕ) → AllPairs (λ p q. AreApart p.rect q.rect) ps → filled ps front x y ≡ unwrap_or (paint_at ps x y) (front x y)
filled_at [] front x y apart = refl
filled_at (p ∷ ps) front x y apart = filled_at ps (λ a b. if in_rect p.rect a b then p.colour else front a b) x y (λ i j d lt below. apart (suc i) (suc j) d (omega arith) (omega arith)) ∙ here (in_rect p.rect x y) refl
  where
    others : in_rect p.rect x y ≡ true → (k : ℕ) (d : Paint) → k < length ps → in_rect (slice_index_or ps k d).rect x y ≡ false
    others h k d lt = let both = apart 0 (suc k) d (omega arith) (omega arith) x y in second (in_rect p.rect x y) (in_rect (slice_index_or ps k d).rect x y) h both
      where
        second : (a b : Bool) → a ≡ true → (a && b) ≡ false → b ≡ false
        second true b e h = h
        second false b e h = grind (arith, nat_tests)

    here : (b : Bool) → in_rect p.rect x y ≡ b → unwrap_or (paint_at ps x y) (if in_rect p.rect x y then p.colour else front x y) ≡ unwrap_or (if in_rect p.rect x y then Some p.colour else paint_at ps x y) (front x y)
    here true h = rw (h, unpainted ps x y (others h)) refl
    here false h = rw h refl

-- what came along is what is carried
pub along_is : {A : Type 0} (width height : ℕ) (old new : List Window) (moved : Option ℕ) (carry : Option Carry) (f : ℕ → ℕ → A) → IsCarried width height old new moved carry →
    (x y : ℕ) → carried_along carry f x y ≡ carried (carried_from width height old new moved x y) f (f x y)
along_is width height old new moved None f is x y = rw (is x y) refl
along_is width height old new None (Some carry) f is x y = absurd is
along_is width height old new (Some n) (Some carry) f is x y =
    subst (λ (d : ℤ × ℤ). carried (pixel_in (in_rects carry.rects) (pos x -ℤ d.0) (pos y -ℤ d.1)) f (f x y) ≡ carried (carried_from width height old new (Some n) x y) f (f x y)) (sym is.way)
    (ap (λ (o : Option (ℕ × ℕ)). carried o f (f x y)) (carry_is width height old new n (in_rects carry.rects) is.pixels x y))

-- the paints of a new stack, made after the carrying, leave in front what it gives
pub filled_is : (width height : ℕ) (root : Rgb) (old new : List Window) (moved : Option ℕ) (touched : Touched) (front : ℕ → ℕ → Rgb) →
    IsCarried width height old new moved touched.carry → ArePaints width height root old new moved touched.paints →
    (x y : ℕ) → x < width → y < height → filled touched.paints (carried_along touched.carry front) x y ≡ carried (carried_from width height old new moved x y) front (painted root moved old new front x y)
filled_is width height root old new moved touched front along are x y lx ly =
    filled_at touched.paints (carried_along touched.carry front) x y are.apart ∙
    rw (are.right x y lx ly, along_is width height old new moved touched.carry front along x y) (carry_then_paint width height root old new moved front x y)

-- what stays on the screen stays on the card
pub stays_inside : (dx dy : ℤ) (width height : ℕ) (r : ClipRect) → StaysOnScreen dx dy width height r → StaysInside dx dy width height r
stays_inside dx dy width height r stays = record {
  inside = record { columns = omega (arith, stays.before.across); right = stays.before.right; rows = omega (arith, stays.before.down); bottom = stays.before.bottom };
  left = stays.left;
  right = stays.right;
  top = stays.top;
  bottom = stays.bottom;
}

-- what stays on a screen doesn't go far
pub goes_near : (dx dy : ℤ) (width height : ℕ) (rects : List ClipRect) → width ≤ 1024 → height ≤ 1024 → 0 < length rects → All (StaysOnScreen dx dy width height) rects → IsCarry dx × IsCarry dy
goes_near dx dy width height [] wide high some each = absurd (omega arith)
goes_near dx dy width height (r ∷ rects) wide high some each =
    let at = each 0 r (omega arith) in
    let on = at.before in (
      (omega (arith, ints, wide, on.right, on.across, at.left), omega (arith, ints, wide, on.right, on.across, at.right)),
      (omega (arith, ints, high, on.bottom, on.down, at.top), omega (arith, ints, high, on.bottom, on.down, at.bottom)),
    )

-- a new stack is carried and painted on the screen
pub can_show : (width height : ℕ) (root : Rgb) (old new : List Window) (moved : Option ℕ) (touched : Touched) → IsCarried width height old new moved touched.carry → ArePaints width height root old new moved touched.paints → CanShow width height touched
can_show width height root old new moved touched along are = record { carry = by_carry moved touched.carry along; paints = are.each }
  where
    by_carry : (m : Option ℕ) (o : Option Carry) → IsCarried width height old new m o → IfSome o (CanCarry width height)
    by_carry m None is = tt
    by_carry None (Some carry) is = absurd is
    by_carry (Some n) (Some carry) is = record { some = is.some; each = is.each; apart = is.apart }

-- where the stack stays and nothing is moved
same_top_self : (o : Option Window) → same_top o o ≡ true
same_top_self None = refl
same_top_self (Some w) = grind (arith, nat_tests)

nothing_displaced : (old new : List Window) (o : Option Window) → is_displaced None old new o ≡ false
nothing_displaced old new None = refl
nothing_displaced old new (Some w) = refl

pub unpainted_same : (root : Rgb) (ws : List Window) (front : ℕ → ℕ → Rgb) (x y : ℕ) → front x y ≡ painted root None ws ws front x y
unpainted_same root ws front x y = rw (same_top_self (top ws x y), nothing_displaced ws ws (top ws x y)) refl
