-- Whether a new stack touches a pixel: something is carried or painted exactly where a pixel is.
use Rattle.std.proofs.Common.{All, ◌≡◌, ◌<◌, ◌≤ℤ◌, ℕ, ℤ, pos, negsuc, ◌-ℤ◌, ◌+ℤ◌, List, [], ◌∷◌, length, Bool, true, false, ◌||◌, nat_lt, Option, Some, None, is_some, refl, ◌∙◌, sym, ap, subst, arith}
use Rattle.std.proofs.lemmas.Bool.{true≢false}
use Rattle.std.proofs.lemmas.Bool.Decides.{nat_tests}
use Rattle.std.proofs.lemmas.Int.{ints}
use Rattle.dri_base.specs.declared.shape.ClipRect.{ClipRect}
use Rattle.dri_base.specs.declared.scene.Scene.{Scene}
use Rattle.dri_base.specs.declared.scene.Window.{Window}
use Rattle.dri_base.specs.Planes.{in_rect}
use Rattle.dri_base.specs.Rectangles.{in_rects}
use Rattle.dri_clips.specs.Paints.{ArePaints, IsCarried, IsCarry, IsOnScreen, StaysOnScreen, paint_at}
use Rattle.dri_clips.specs.declared.touched.Carry.{Carry}
use Rattle.dri_clips.specs.declared.touched.Paint.{Paint}
use Rattle.dri_clips.specs.declared.touched.Touched.{Touched}
use Rattle.dri_core.specs.Worlds.{World}
use Rattle.dri_flip.specs.Follows.{has_change}
use Rattle.dri_flip.specs.Owings.{alters}
use Rattle.dri_flip.specs.Places.{has_some}
use Rattle.dri_flip.proofs.Sets.{none_has, some_has}
use Rattle.dri_journal.specs.Deeds.{IsTouchedBy}
use Rattle.dri_model.proofs.Moves.{carry_is}
use Rattle.dri_model.specs.Stacks.{carried_from, is_displaced, pixel_in, repaint, same_top, top}

-- a rectangle of the screen has its first pixel, and so has a list that begins with it
pub first_in : (width height : ℕ) (r : ClipRect) → IsOnScreen width height r → (in_rect r r.x1 r.y1 ≡ true) × (r.x1 < width) × (r.y1 < height)
first_in width height r on = (let a = on.across in let b = on.down in grind (arith, nat_tests), omega (arith, on.across, on.right), omega (arith, on.down, on.bottom))

or_first : (a b : Bool) → a ≡ true → (a || b) ≡ true
or_first true b e = refl
or_first false b e = absurd (true≢false (sym e))

or_second : (a b : Bool) → b ≡ true → (a || b) ≡ true
or_second true b e = refl
or_second false b e = e

both_none : (a b : Bool) → a ≡ false → b ≡ false → (a || b) ≡ false
both_none false b e f = f
both_none true b e f = absurd (true≢false e)

-- a list of rectangles of the screen, of which there is one, has a place of it
pub rects_touch : (width height : ℕ) (rects : List ClipRect) → 0 < length rects → All (IsOnScreen width height) rects → has_some width height (in_rects rects) ≡ true
rects_touch width height [] some on = absurd (omega arith)
rects_touch width height (r ∷ rects) some on =
    let first = first_in width height r (on 0 r (omega arith)) in
    some_has width height (in_rects (r ∷ rects)) r.x1 r.y1 first.1 first.2 (or_first (in_rect r r.x1 r.y1) (in_rects rects r.x1 r.y1) first.0)

-- a number that isn't negative
record IsCount (z : ℤ) : Type 0 where
  pub n : ℕ
  pub is : z ≡ pos n

counted : (z : ℤ) → pos 0 ≤ℤ z → IsCount z
counted (pos n) le = record { n = n; is = refl }
counted (negsuc n) le = absurd (omega (arith, ints, le))

-- a pixel of the set is found
pixel_found : (f : ℕ → ℕ → Bool) (x y : ℕ) (a b : ℤ) → a ≡ pos x → b ≡ pos y → f x y ≡ true → is_some (pixel_in f a b) ≡ true
pixel_found f x y a b e g has = (λ i. is_some (pixel_in f (e i) (g i))) ∙ rw has refl

-- what is carried comes to a pixel of the screen
carried_there : (width height : ℕ) (old new : List Window) (n : ℕ) (carry : Carry) → IsCarry width height old new n carry →
    (x : ℕ) × (y : ℕ) × (x < width) × (y < height) × (is_some (carried_from width height old new (Some n) x y) ≡ true)
carried_there width height old new n carry is = by_rects carry.rects refl is.some
  where
    by_rects : (rects : List ClipRect) → carry.rects ≡ rects → 0 < length rects → (x : ℕ) × (y : ℕ) × (x < width) × (y < height) × (is_some (carried_from width height old new (Some n) x y) ≡ true)
    by_rects [] e some = absurd (omega arith)
    by_rects (r ∷ rects) e some = (column.n, row.n, wide, high, comes)
      where
        stays : StaysOnScreen carry.dx carry.dy width height r
        stays = subst (All (StaysOnScreen carry.dx carry.dy width height)) e is.each 0 r (omega arith)

        column : IsCount (pos r.x1 +ℤ carry.dx)
        column = counted (pos r.x1 +ℤ carry.dx) stays.left

        row : IsCount (pos r.y1 +ℤ carry.dy)
        row = counted (pos r.y1 +ℤ carry.dy) stays.top

        wide : column.n < width
        wide = omega (arith, ints, column.is, stays.right, stays.before.across)

        high : row.n < height
        high = omega (arith, ints, row.is, stays.bottom, stays.before.down)

        first : in_rect r r.x1 r.y1 ≡ true
        first = (first_in width height r stays.before).0

        has : in_rects carry.rects r.x1 r.y1 ≡ true
        has = ap (λ rs. in_rects rs r.x1 r.y1) e ∙ or_first (in_rect r r.x1 r.y1) (in_rects rects r.x1 r.y1) first

        across : pos column.n -ℤ carry.dx ≡ pos r.x1
        across = omega (arith, ints, column.is)

        down : pos row.n -ℤ carry.dy ≡ pos r.y1
        down = omega (arith, ints, row.is)

        comes : is_some (carried_from width height old new (Some n) column.n row.n) ≡ true
        comes =
            ap is_some (sym (carry_is width height old new n (in_rects carry.rects) is.pixels column.n row.n))
            ∙ ap (λ (d : ℤ × ℤ). is_some (pixel_in (in_rects carry.rects) (pos column.n -ℤ d.0) (pos row.n -ℤ d.1))) (sym is.way)
            ∙ pixel_found (in_rects carry.rects) r.x1 r.y1 (pos column.n -ℤ carry.dx) (pos row.n -ℤ carry.dy) across down has

-- paints paint a pixel exactly where there is one
paint_there : (width height : ℕ) (ps : List Paint) → All (λ p. IsOnScreen width height p.rect) ps → 0 < length ps → (x : ℕ) × (y : ℕ) × (x < width) × (y < height) × (is_some (paint_at ps x y) ≡ true)
paint_there width height [] on some = absurd (omega arith)
paint_there width height (p ∷ ps) on some = let first = first_in width height p.rect (on 0 p (omega arith)) in (p.rect.x1, p.rect.y1, first.1, first.2, rw first.0 refl)

some_paint : (ps : List Paint) → 0 < length ps → nat_lt 0 (length ps) ≡ true
some_paint ps some = grind (arith, nat_tests, some)

-- something is carried or painted exactly where a pixel is
pub change_is : (s : Scene) (w : World) (moved : Option ℕ) (new : List Window) (touched : Touched) → IsTouchedBy s w moved new touched → has_change touched ≡ has_some s.width s.height (alters s w moved new)
change_is s w moved new touched is = by_carry moved touched.carry touched.paints is.carry is.paints
  where
    by_carry : (m : Option ℕ) (o : Option Carry) (ps : List Paint) → IsCarried s.width s.height w.stack new m o → ArePaints s.width s.height s.root w.stack new m ps →
        (is_some o || nat_lt 0 (length ps)) ≡ has_some s.width s.height (alters s w m new)
    by_carry None (Some carry) ps along are = absurd along
    by_carry (Some n) (Some carry) ps along are =
        let at = carried_there s.width s.height w.stack new n carry along in
        sym (some_has s.width s.height (alters s w (Some n) new) at.0 at.1 at.2 at.3 (or_first (is_some (carried_from s.width s.height w.stack new (Some n) at.0 at.1)) (is_some (repaint s.width s.height s.root w.stack new (Some n) at.0 at.1)) at.4))
    by_carry m None [] along are =
        sym (none_has s.width s.height (alters s w m new) (λ x y column row. both_none (is_some (carried_from s.width s.height w.stack new m x y)) (is_some (repaint s.width s.height s.root w.stack new m x y)) (ap is_some (along x y)) (ap is_some (sym (are.right x y column row)))))
    by_carry m None (p ∷ ps) along are =
        let at = paint_there s.width s.height (p ∷ ps) are.each (omega arith) in
        some_paint (p ∷ ps) (omega arith) ∙ sym (some_has s.width s.height (alters s w m new) at.0 at.1 at.2 at.3
        (or_second (is_some (carried_from s.width s.height w.stack new m at.0 at.1)) (is_some (repaint s.width s.height s.root w.stack new m at.0 at.1)) (ap is_some (sym (are.right at.0 at.1 at.2 at.3)) ∙ at.4)))

-- where the stack stays and nothing is moved no pixel is touched
same_top_self : (o : Option Window) → same_top o o ≡ true
same_top_self None = refl
same_top_self (Some w) = grind (arith, nat_tests)

nothing_displaced : (old new : List Window) (o : Option Window) → is_displaced None old new o ≡ false
nothing_displaced old new None = refl
nothing_displaced old new (Some w) = refl

pub unchanged : (s : Scene) (w : World) → has_some s.width s.height (alters s w None w.stack) ≡ false
unchanged s w = none_has s.width s.height (alters s w None w.stack) (λ x y column row. rw (same_top_self (top w.stack x y), nothing_displaced w.stack w.stack (top w.stack x y)) refl)
