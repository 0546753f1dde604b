-- Where the pixels of a window that a new stack keeps come from.
use Rattle.std.proofs.Common.{◌≡◌, ◌≢◌, ◌≤◌, ℕ, List, true, false, Option, Some, None, arith, refl, sym, ap, ◌∙◌, inl, inr, subst}
use Rattle.std.specs.Prelude.{Bool, ℤ, pos, nat_lt, ◌&&◌, ◌-ℤ◌, ◌==◌, ◌⊎◌}
use Rattle.std.proofs.lemmas.Int.{ints}
use Rattle.std.proofs.lemmas.Bool.Decides.{nat_tests}
use Rattle.std.proofs.lemmas.Bool.{true≢false, and_parts, and_right, cases_eq}
use Rattle.dri_base.specs.declared.colour.Pixel.{Pixel}
use Rattle.dri_base.specs.declared.colour.Rgb.{Rgb}
use Rattle.dri_base.specs.declared.scene.Scene.{Scene}
use Rattle.dri_base.specs.declared.scene.Window.{Window}
use Rattle.dri_base.specs.Scenes.{window_of}
use Rattle.dri_model.specs.Stacks.{all_came, carried_from, clips, is_moved, is_moved_whole, is_window, origin, same_top, shift, top, was_at}
use Rattle.dri_model.proofs.Moves.{IsPixel, came_at, no_step, not_displaced, pixel_is, was_here}
use Rattle.dri_model.proofs.Touches.{clips_kept, origin_kept, how_many_at}
use Rattle.dri_core.specs.Restacks.{back_restacked, front_restacked, stamps_after, touched_by}
use Rattle.dri_core.specs.Worlds.{World, clips_in}

-- where a window shows
pub window_at : (width height : ℕ) (ws : List Window) (n x y : ℕ) → clips width height ws n x y ≡ true → is_window n (top ws x y) ≡ true
window_at width height ws n x y inside = (and_parts (nat_lt y height) (is_window n (top ws x y)) (and_parts (nat_lt x width) _ inside).1).1

one_window : (n m : ℕ) (o : Option Window) → n ≢ m → is_window n o ≡ true → is_window m o ≡ false
one_window n m None ne is = refl
one_window n m (Some w) ne is = grind (arith, nat_tests)

-- no two windows show at one pixel
pub clips_apart : (width height : ℕ) (ws : List Window) (n m x y : ℕ) → n ≢ m → clips width height ws n x y ≡ true → clips width height ws m x y ≡ false
clips_apart width height ws n m x y ne inside =
    and_right (nat_lt x width) _ (and_right (nat_lt y height) _ (one_window n m (top ws x y) ne (window_at width height ws n x y inside)))

pub apart_at : (s : Scene) (w : World) (c d x y : ℕ) → window_of s c ≢ window_of s d → clips_in s w c x y ≡ true → clips_in s w d x y ≡ false
apart_at s w c d x y ne inside = clips_apart s.width s.height w.stack (window_of s c) (window_of s d) x y ne inside

tops_same : (n : ℕ) (a b : Option Window) → is_window n a ≡ true → is_window n b ≡ true → same_top a b ≡ true
tops_same n None b ia ib = absurd (true≢false (sym ia))
tops_same n (Some a) None ia ib = absurd (true≢false (sym ib))
tops_same n (Some a) (Some b) ia ib = grind (arith, nat_tests)

-- a new stack that keeps the window's stamp keeps its clips and its origin
pub restack_keeps : (s : Scene) (w : World) (new : List Window) (n : ℕ) → w.stamps n ≤ w.counter → stamps_after s w new n ≡ w.stamps n → touched_by s w new n ≡ false
restack_keeps s w new n le e = by_touch (touched_by s w new n) refl
  where
    by_touch : (b : Bool) → touched_by s w new n ≡ b → touched_by s w new n ≡ false
    by_touch true t = absurd (grind (arith, how_many_at (touched_by s w new) n t))
    by_touch false t = t

-- the window's pixel showed before, at a column and a row, with what it has now
pub record CameFrom (s : Scene) (w : World) (new : List Window) (shown : ℕ → ℕ → Rgb) (drawn : ℕ → ℕ → Pixel) (n x y : ℕ) : Type 0 where
  pub column : ℕ
  pub row : ℕ
  pub inside : clips s.width s.height w.stack n column row ≡ true
  pub front : shown x y ≡ w.front column row
  pub back : drawn x y ≡ w.back column row
  pub across : pos x -ℤ (origin new n).0 ≡ pos column -ℤ (origin w.stack n).0
  pub down : pos y -ℤ (origin new n).1 ≡ pos row -ℤ (origin w.stack n).1

-- the stack leaves the window, or moves it whole
abbrev pub IsKept : Scene → World → Option ℕ → List Window → ℕ → Type 0
IsKept s w moved new n = (touched_by s w new n ≡ false) ⊎ (is_moved_whole s.width s.height w.stack new moved n ≡ true)

module _ (s : Scene) (w : World) (new : List Window) (n x y : ℕ) (inside : clips s.width s.height new n x y ≡ true) where
  -- a carried pixel of the window
  came_along : (p : ℕ × ℕ) → was_at s.width s.height w.stack new n x y ≡ Some p →
      IsPixel (clips s.width s.height w.stack n) (pos x -ℤ (shift w.stack new n).0) (pos y -ℤ (shift w.stack new n).1) p →
      CameFrom s w new (front_restacked s w (Some n) new) (back_restacked s w (Some n) new) n x y
  came_along p was is = record {
    column = p.0;
    row = p.1;
    inside = is.inside;
    front = rw (inside, was) refl;
    back = rw (inside, was) refl;
    across = regroup x (origin new n).0 (origin w.stack n).0 p.0 is.across;
    down = regroup y (origin new n).1 (origin w.stack n).1 p.1 is.down;
  }
    where
      regroup : (x : ℕ) (a b : ℤ) (c : ℕ) → pos x -ℤ (a -ℤ b) ≡ pos c → pos x -ℤ a ≡ pos c -ℤ b
      regroup x a b c e = omega (arith, ints)

  module _ (untouched : touched_by s w new n ≡ false) where
    before : clips s.width s.height w.stack n x y ≡ true
    before = sym (clips_kept s.width s.height w.stack new n x y untouched) ∙ inside

    -- a pixel of a window that isn't moved
    came_still : (moved : Option ℕ) → is_moved n moved ≡ false → carried_from s.width s.height w.stack new moved x y ≡ None →
        CameFrom s w new (front_restacked s w moved new) (back_restacked s w moved new) n x y
    came_still moved other none = record {
      column = x;
      row = y;
      inside = before;
      front = rw (none, tops_same n (top w.stack x y) (top new x y) (window_at s.width s.height w.stack n x y before) shows, not_displaced moved w.stack new n (top new x y) shows other) refl;
      back = rw none refl;
      across = ap (λ o. pos x -ℤ o.0) (origin_kept s.width s.height w.stack new n untouched);
      down = ap (λ o. pos y -ℤ o.1) (origin_kept s.width s.height w.stack new n untouched);
    }
      where
        shows : is_window n (top new x y) ≡ true
        shows = window_at s.width s.height new n x y inside

    came_untouched : (moved : Option ℕ) → CameFrom s w new (front_restacked s w moved new) (back_restacked s w moved new) n x y
    came_untouched None = came_still None refl refl
    came_untouched (Some m) = by_move (cases_eq m n)
      where
        at_here : IsPixel (clips s.width s.height w.stack n) (pos x -ℤ (shift w.stack new n).0) (pos y -ℤ (shift w.stack new n).1) (x, y)
        at_here = record {
          inside = before;
          across = no_step x (origin new n).0 (origin w.stack n).0 (ap (λ o. o.0) (origin_kept s.width s.height w.stack new n untouched));
          down = no_step y (origin new n).1 (origin w.stack n).1 (ap (λ o. o.1) (origin_kept s.width s.height w.stack new n untouched));
        }

        by_move : (m ≡ n) ⊎ (m ≡ n → ⊥) → CameFrom s w new (front_restacked s w (Some m) new) (back_restacked s w (Some m) new) n x y
        by_move (inl same) = subst (λ k. CameFrom s w new (front_restacked s w (Some k) new) (back_restacked s w (Some k) new) n x y) (sym same)
            (came_along (x, y) (was_here s.width s.height w.stack new n x y (origin_kept s.width s.height w.stack new n untouched) before) at_here)
        by_move (inr ne) = came_still (Some m) differs (rw elsewhere refl)
          where
            differs : (m == n) ≡ false
            differs = grind (arith, nat_tests)

            elsewhere : clips s.width s.height new m x y ≡ false
            elsewhere = clips_apart s.width s.height new n m x y (λ e. ne (sym e)) inside

  -- each pixel of a window that is kept came from one of its pixels
  pub came_from : (moved : Option ℕ) → IsKept s w moved new n → CameFrom s w new (front_restacked s w moved new) (back_restacked s w moved new) n x y
  came_from moved (inl untouched) = came_untouched untouched moved
  came_from None (inr whole) = absurd (true≢false (sym whole))
  came_from (Some m) (inr whole) = subst (λ k. CameFrom s w new (front_restacked s w (Some k) new) (back_restacked s w (Some k) new) n x y) (sym same) (came_along p.0 p.1 p.2)
    where
      parts : ((m == n) ≡ true) × ((all_came s.width s.height w.stack new n && all_came s.width s.height new w.stack n) ≡ true)
      parts = and_parts (m == n) _ whole

      same : m ≡ n
      same = grind (arith, nat_tests, parts.0)

      p : (p : ℕ × ℕ) × (was_at s.width s.height w.stack new n x y ≡ Some p) × IsPixel (clips s.width s.height w.stack n) (pos x -ℤ (shift w.stack new n).0) (pos y -ℤ (shift w.stack new n).1) p
      p = pixel_is (clips s.width s.height w.stack n) (pos x -ℤ (shift w.stack new n).0) (pos y -ℤ (shift w.stack new n).1)
          (came_at s.width s.height w.stack new n x y (and_parts (all_came s.width s.height w.stack new n) _ parts.1).0 inside)
