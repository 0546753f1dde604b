-- Where the pixels of a window were before a move.
use Rattle.std.proofs.Common.{◌≡◌, ◌<◌, ℕ, List, Bool, true, false, not, Option, Some, None, arith, refl, sym, ap, ◌∙◌, subst}
use Rattle.std.specs.Prelude.{ℤ, pos, negsuc, nat_lt, is_some, if◌then◌else◌, ◌-ℤ◌, ◌==◌, ◌&&◌, ◌||◌}
use Rattle.std.specs.Option.{unwrap_or}
use Rattle.std.proofs.lemmas.Int.{ints}
use Rattle.std.proofs.lemmas.Bool.{and_parts, true≢false}
use Rattle.std.proofs.lemmas.Bool.Decides.{nat_tests}
use Rattle.dri_base.specs.declared.colour.Rgb.{Rgb}
use Rattle.dri_base.specs.declared.scene.Window.{Window}
use Rattle.dri_model.specs.Counting.{all_below}
use Rattle.dri_model.specs.Stacks.{all_came, carried, carried_from, clips, ground_colour, is_displaced, is_moved, is_window, origin, painted, pixel_in, repaint, same_top, shift, top, was_at}
use Rattle.dri_model.proofs.Touches.{all_below_at}

-- the pixel that a set has at a place
pub record IsPixel (f : ℕ → ℕ → Bool) (x y : ℤ) (p : ℕ × ℕ) : Type 0 where
  pub inside : f p.0 p.1 ≡ true
  pub across : x ≡ pos p.0
  pub down : y ≡ pos p.1

pub pixel_is : (f : ℕ → ℕ → Bool) (x y : ℤ) → is_some (pixel_in f x y) ≡ true → (p : ℕ × ℕ) × (pixel_in f x y ≡ Some p) × IsPixel f x y p
pixel_is f (pos x) (pos y) e = by_set (f x y) refl
  where
    by_set : (b : Bool) → f x y ≡ b → (p : ℕ × ℕ) × (pixel_in f (pos x) (pos y) ≡ Some p) × IsPixel f (pos x) (pos y) p
    by_set true is = ((x, y), rw is refl, record { inside = is; across = refl; down = refl })
    by_set false is = absurd (true≢false (sym (rw is at e)))
pixel_is f (pos x) (negsuc y) e = absurd (true≢false (sym e))
pixel_is f (negsuc x) y e = absurd (true≢false (sym e))

unless_not : (a b : Bool) → (not a || b) ≡ true → a ≡ true → b ≡ true
unless_not true b e is = e
unless_not false b e is = absurd (true≢false (sym is))

-- each pixel of a window that came along whole was somewhere
pub came_at : (width height : ℕ) (old new : List Window) (n x y : ℕ) → all_came width height old new n ≡ true → clips width height new n x y ≡ true →
    is_some (was_at width height old new n x y) ≡ true
came_at width height old new n x y all inside =
    unless_not (clips width height new n x y) (is_some (was_at width height old new n x y))
    (all_below_at (λ y. not (clips width height new n x y) || is_some (was_at width height old new n x y)) height y
    (all_below_at (λ x. all_below (λ y. not (clips width height new n x y) || is_some (was_at width height old new n x y)) height) width x all across) down) inside
  where
    parts : (nat_lt x width ≡ true) × ((nat_lt y height && is_window n (top new x y)) ≡ true)
    parts = and_parts (nat_lt x width) (nat_lt y height && is_window n (top new x y)) inside

    across : x < width
    across = grind (arith, nat_tests, parts.0)

    below : nat_lt y height ≡ true
    below = (and_parts (nat_lt y height) (is_window n (top new x y)) parts.1).0

    down : y < height
    down = grind (arith, nat_tests, below)

pub no_step : (x : ℕ) (a b : ℤ) → a ≡ b → pos x -ℤ (a -ℤ b) ≡ pos x
no_step x a b e = omega (arith, ints)

-- a pixel of a window whose origin stays was where it is
pub was_here : (width height : ℕ) (old new : List Window) (n x y : ℕ) → origin new n ≡ origin old n → clips width height old n x y ≡ true → was_at width height old new n x y ≡ Some (x, y)
was_here width height old new n x y same inside = rw (no_step x (origin new n).0 (origin old n).0 (ap (λ o. o.0) same), no_step y (origin new n).1 (origin old n).1 (ap (λ o. o.1) same), inside) refl

-- where another window than the moved one is topmost, it isn't displaced
pub not_displaced : (moved : Option ℕ) (old new : List Window) (n : ℕ) (top : Option Window) → is_window n top ≡ true → is_moved n moved ≡ false → is_displaced moved old new top ≡ false
not_displaced moved old new n None is other = refl
not_displaced None old new n (Some w) is other = refl
not_displaced (Some m) old new n (Some w) is other = rw differs refl
  where
    differs : (m == w.number) ≡ false
    differs = grind (arith, nat_tests)

-- a carried pixel shows the moved window, and so did the pixel that it comes from
pub carried_is : (width height : ℕ) (old new : List Window) (n x y : ℕ) (p : ℕ × ℕ) → carried_from width height old new (Some n) x y ≡ Some p →
    (clips width height new n x y ≡ true) × (was_at width height old new n x y ≡ Some p)
carried_is width height old new n x y p e = by_clip (clips width height new n x y) refl e
  where
    none_some : None ≡ Some p → ⊥
    none_some e = grind arith

    by_clip : (b : Bool) → clips width height new n x y ≡ b → (if b then was_at width height old new n x y else None) ≡ Some p →
        (clips width height new n x y ≡ true) × (was_at width height old new n x y ≡ Some p)
    by_clip true is e = (is, e)
    by_clip false is e = absurd (none_some e)

-- a pixel of the set, at just these numbers
pixel_there : (f : ℕ → ℕ → Bool) (x y : ℤ) (a b : ℕ) → x ≡ pos a → y ≡ pos b → f a b ≡ true → pixel_in f x y ≡ Some (a, b)
pixel_there f x y a b across down inside = rw (across, down, inside) refl

pixel_of : (f : ℕ → ℕ → Bool) (x y : ℤ) (p : ℕ × ℕ) → pixel_in f x y ≡ Some p → IsPixel f x y p
pixel_of f x y p e = let found = pixel_is f x y (ap is_some e) in subst (IsPixel f x y) (some_same found.0 p (sym found.1 ∙ e)) found.2
  where
    some_same : (a b : ℕ × ℕ) → Some a ≡ Some b → a ≡ b
    some_same a b e = cc

-- the way back: the pixel that a carried one comes from is carried to it by the opposite move, so no two come from one
pub carried_back : (width height : ℕ) (old new : List Window) (moved : Option ℕ) (x y : ℕ) (p : ℕ × ℕ) → carried_from width height old new moved x y ≡ Some p →
    carried_from width height new old moved p.0 p.1 ≡ Some (x, y)
carried_back width height old new None x y p e = absurd (none_some e)
  where
    none_some : None ≡ Some p → ⊥
    none_some e = grind arith
carried_back width height old new (Some n) x y p e = rw was.inside (pixel_there (clips width height new n) _ _ x y (returns x (origin old n).0 (origin new n).0 p.0 was.across) (returns y (origin old n).1 (origin new n).1 p.1 was.down) both.0)
  where
    both : (clips width height new n x y ≡ true) × (was_at width height old new n x y ≡ Some p)
    both = carried_is width height old new n x y p e

    was : IsPixel (clips width height old n) (pos x -ℤ (shift old new n).0) (pos y -ℤ (shift old new n).1) p
    was = pixel_of (clips width height old n) (pos x -ℤ (shift old new n).0) (pos y -ℤ (shift old new n).1) p both.1

    returns : (x : ℕ) (a b : ℤ) (c : ℕ) → pos x -ℤ (b -ℤ a) ≡ pos c → pos c -ℤ (a -ℤ b) ≡ pos x
    returns x a b c e = omega (arith, ints)

-- paints after the carrying: a pixel gets a ground colour exactly where it isn't carried and its topmost window changed or is displaced
pub carry_then_paint : (width height : ℕ) (root : Rgb) (old new : List Window) (moved : Option ℕ) (front : ℕ → ℕ → Rgb) (x y : ℕ) →
    unwrap_or (repaint width height root old new moved x y) (carried (carried_from width height old new moved x y) front (front x y)) ≡
    carried (carried_from width height old new moved x y) front (painted root moved old new front x y)
carry_then_paint width height root old new moved front x y = by_source (carried_from width height old new moved x y) (same_top (top old x y) (top new x y) && not (is_displaced moved old new (top new x y)))
  where
    by_source : (o : Option (ℕ × ℕ)) (b : Bool) →
        unwrap_or (if is_some o || b then None else Some (ground_colour root (top new x y))) (carried o front (front x y)) ≡
        carried o front (if b then front x y else ground_colour root (top new x y))
    by_source None true = refl
    by_source None false = refl
    by_source (Some p) b = refl

some_of : {A : Type 0} (o : Option A) → is_some o ≡ true → (a : A) × (o ≡ Some a)
some_of None e = absurd (true≢false (sym e))
some_of (Some a) e = (a, refl)

lands_at : (x : ℕ) (a b : ℤ) (c d : ℕ) → pos x -ℤ (b -ℤ a) ≡ pos c → pos c -ℤ (a -ℤ b) ≡ pos d → d ≡ x
lands_at x a b c d e h = omega (arith, ints)

-- the pixels before the move, as a set, are carried to just the carried pixels
pub carry_is : (width height : ℕ) (old new : List Window) (n : ℕ) (f : ℕ → ℕ → Bool) → ((a b : ℕ) → f a b ≡ is_some (carried_from width height new old (Some n) a b)) →
    (x y : ℕ) → pixel_in f (pos x -ℤ (shift old new n).0) (pos y -ℤ (shift old new n).1) ≡ carried_from width height old new (Some n) x y
carry_is width height old new n f sources x y = by_source (carried_from width height old new (Some n) x y) refl
  where
    -- a pixel of the set at that place goes to x and y
    goes : (p : ℕ × ℕ) → IsPixel f (pos x -ℤ (shift old new n).0) (pos y -ℤ (shift old new n).1) p → carried_from width height old new (Some n) x y ≡ Some p
    goes p at = carried_back width height new old (Some n) p.0 p.1 (x, y) (rw parts.0 lands)
      where
        whether : is_some (carried_from width height new old (Some n) p.0 p.1) ≡ true
        whether = sym (sources p.0 p.1) ∙ at.inside

        target : (q : ℕ × ℕ) × (carried_from width height new old (Some n) p.0 p.1 ≡ Some q)
        target = some_of (carried_from width height new old (Some n) p.0 p.1) whether

        parts : (clips width height old n p.0 p.1 ≡ true) × (was_at width height new old n p.0 p.1 ≡ Some target.0)
        parts = carried_is width height new old n p.0 p.1 target.0 target.1

        there : IsPixel (clips width height new n) (pos p.0 -ℤ (shift new old n).0) (pos p.1 -ℤ (shift new old n).1) target.0
        there = pixel_of (clips width height new n) (pos p.0 -ℤ (shift new old n).0) (pos p.1 -ℤ (shift new old n).1) target.0 parts.1

        column : target.0.0 ≡ x
        column = lands_at x (origin old n).0 (origin new n).0 p.0 target.0.0 at.across there.across

        row : target.0.1 ≡ y
        row = lands_at y (origin old n).1 (origin new n).1 p.1 target.0.1 at.down there.down

        lands : was_at width height new old n p.0 p.1 ≡ Some (x, y)
        lands = parts.1 ∙ ap (λ k. Some (k, target.0.1)) column ∙ ap (λ k. Some (x, k)) row

    by_source : (o : Option (ℕ × ℕ)) → carried_from width height old new (Some n) x y ≡ o → pixel_in f (pos x -ℤ (shift old new n).0) (pos y -ℤ (shift old new n).1) ≡ o
    by_source None e = by_pixel (pixel_in f (pos x -ℤ (shift old new n).0) (pos y -ℤ (shift old new n).1)) refl
      where
        by_pixel : (o : Option (ℕ × ℕ)) → pixel_in f (pos x -ℤ (shift old new n).0) (pos y -ℤ (shift old new n).1) ≡ o → o ≡ None
        by_pixel None h = refl
        by_pixel (Some p) h = sym (goes p (pixel_of f (pos x -ℤ (shift old new n).0) (pos y -ℤ (shift old new n).1) p h)) ∙ e
    by_source (Some p) e = pixel_there f (pos x -ℤ (shift old new n).0) (pos y -ℤ (shift old new n).1) p.0 p.1 was.across was.down (sources p.0 p.1 ∙ ap is_some (carried_back width height old new (Some n) x y p e))
      where
        was : IsPixel (clips width height old n) (pos x -ℤ (shift old new n).0) (pos y -ℤ (shift old new n).1) p
        was = pixel_of (clips width height old n) (pos x -ℤ (shift old new n).0) (pos y -ℤ (shift old new n).1) p (carried_is width height old new n x y p e).1
