-- The walk from top to bottom: which window is on top at a place.
use Rattle.std.proofs.Common.{◌≡◌, ℕ, zero, suc, take, List, [], ◌∷◌, Bool, true, false, arith, refl, sym, ◌∙◌, ap, subst, None, Some, slice_get, is_none, is_some}
use Rattle.std.specs.Prelude.{ℤ, pos, negsuc, ◌+ℤ◌, ◌&&◌, ◌==◌, not, int_lt, int_le, nat_lt, if◌then◌else◌}
use Rattle.std.proofs.lemmas.Bool.{true≢false, eq-eqb, le-leb}
use Rattle.std.proofs.Math.Bool.{and-false, and_assoc, and_comm}
use Rattle.dri_base.specs.declared.scene.Window.{Window}
use Rattle.dri_rect.specs.Pixels.{has_pixel}
use Rattle.dri_model.specs.Stacks.{is_window, top, window_has}
use Rattle.dri_clips.specs.Boards.{shows}
use Rattle.dri_clips.proofs.Placing.{eq_sym}
use Rattle.dri_clips.specs.Layouts.{AreDistinct, IsAbsent, has_place, screen_rect, top_at}

-- a window whose number no window has isn't on top
pub never_top : (n : ℕ) (ws : List Window) → IsAbsent n ws → (x y : ℤ) → is_window n (top_at ws x y) ≡ false
never_top n [] a x y = refl
never_top n (w ∷ ws) a x y = by (has_place w x y) (never_top n ws a.1 x y)
  where
    by : (b : Bool) → is_window n (top_at ws x y) ≡ false → is_window n (if b then Some w else top_at ws x y) ≡ false
    by true e = a.0
    by false e = e

-- a window on the board has another number than one that no window has
pub differs : (n : ℕ) (ws : List Window) (k : ℕ) (w : Window) → IsAbsent n ws → slice_get ws k ≡ Some w → (w.number == n) ≡ false
differs n [] k w a e = absurd (true≢false (ap (λ o. is_some o) (sym e)))
differs n (v ∷ ws) zero w a e = let same : v ≡ w = cc in subst (λ (u : Window). (u.number == n) ≡ false) same a.0
differs n (v ∷ ws) (suc k) w a e = differs n ws k w a.1 e

-- the window at a place is on top just where it has_place a place that no window above it has_place
pub top_place : (ws : List Window) (k : ℕ) (w : Window) → AreDistinct ws → slice_get ws k ≡ Some w → (x y : ℤ) → is_window w.number (top_at ws x y) ≡ (is_none (top_at (take k ws) x y) && has_place w x y)
top_place [] k w a e x y = absurd (true≢false (ap (λ o. is_some o) (sym e)))
top_place (v ∷ ws) zero w a e x y = let same : v ≡ w = cc in subst (λ (u : Window). is_window u.number (top_at (v ∷ ws) x y) ≡ has_place u x y) same (by (has_place v x y) (never_top v.number ws a.0 x y))
  where
    by : (t : Bool) → is_window v.number (top_at ws x y) ≡ false → is_window v.number (if t then Some v else top_at ws x y) ≡ t
    by true f = eq-eqb v.number v.number refl
    by false f = f
top_place (v ∷ ws) (suc k) w a e x y = by (has_place v x y) (top_place ws k w a.1 e x y)
  where
    by : (t : Bool) → is_window w.number (top_at ws x y) ≡ (is_none (top_at (take k ws) x y) && has_place w x y) →
        is_window w.number (if t then Some v else top_at ws x y) ≡ (is_none (if t then Some v else top_at (take k ws) x y) && has_place w x y)
    by true f = eq_sym v.number w.number ∙ differs v.number ws k w a.0 e
    by false f = f

-- what is left for the windows below, after one window more
pub left_more : (ws : List Window) (k : ℕ) (w : Window) → slice_get ws k ≡ Some w → (x y : ℤ) → is_none (top_at (take (suc k) ws) x y) ≡ (is_none (top_at (take k ws) x y) && not (has_place w x y))
left_more [] k w e x y = absurd (true≢false (ap (λ o. is_some o) (sym e)))
left_more (v ∷ ws) zero w e x y = let same : v ≡ w = cc in subst (λ (u : Window). is_none (if has_place v x y then Some v else None) ≡ not (has_place u x y)) same (by (has_place v x y))
  where
    by : (t : Bool) → is_none (if t then Some v else None) ≡ not t
    by true = refl
    by false = refl
left_more (v ∷ ws) (suc k) w e x y = by (has_place v x y) (left_more ws k w e x y)
  where
    by : (t : Bool) → is_none (top_at (take (suc k) ws) x y) ≡ (is_none (top_at (take k ws) x y) && not (has_place w x y)) →
        is_none (if t then Some v else top_at (take (suc k) ws) x y) ≡ (is_none (if t then Some v else top_at (take k ws) x y) && not (has_place w x y))
    by true f = refl
    by false f = f

-- the places of the screen
place_pixel : (w : Window) (x y : ℕ) → has_place w (pos x) (pos y) ≡ (w.mapped && window_has w x y)
place_pixel w x y = ap (λ b. w.mapped && b) (and_comm (int_le w.y (pos y) && int_lt (pos y) (w.y +ℤ pos w.height)) (int_le w.x (pos x) && int_lt (pos x) (w.x +ℤ pos w.width)))

pub top_pixel : (ws : List Window) (x y : ℕ) → top_at ws (pos x) (pos y) ≡ top ws x y
top_pixel [] x y = refl
top_pixel (w ∷ ws) x y = rw (place_pixel w x y, top_pixel ws x y) refl

zero_le : (n : ℕ) → int_le (pos 0) (pos n) ≡ true
zero_le n = le-leb 0 n (omega arith)

pub on_screen : (width height x y : ℕ) → has_pixel (screen_rect width height) (pos x) (pos y) ≡ (nat_lt x width && nat_lt y height)
on_screen width height x y = rw (zero_le y, zero_le x) (and_comm (nat_lt y height) (nat_lt x width))

pub shown : (width height : ℕ) (ws : List Window) (n : ℕ) (x y : ℤ) → (has_pixel (screen_rect width height) x y && is_window n (top_at ws x y)) ≡ shows width height ws n x y
shown width height ws n (pos x) (pos y) = rw (on_screen width height x y, top_pixel ws x y, and_assoc (nat_lt x width) (nat_lt y height) (is_window n (top ws x y))) refl
shown width height ws n (pos x) (negsuc y) = refl
shown width height ws n (negsuc x) y = rw and-false refl
