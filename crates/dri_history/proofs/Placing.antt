-- Rectangles that have a place, and what a card has there.
use Rattle.std.proofs.Common.{◌≡◌, ◌<◌, ◌+◌, ℕ, suc, ℤ, pos, negsuc, List, [], ◌∷◌, take, Bool, true, false, ◌||◌, if◌then◌else◌, Some, None, is_some, slice_get, refl, ◌∙◌, sym, ap, subst, arith}
use Rattle.std.proofs.lemmas.Option.{same_Some}
use Rattle.std.specs.List.{list_any}
use Rattle.dri_base.proofs.PlaneLists.{plane_at}
use Rattle.dri_base.specs.Planes.{at, in_rect, plane}
use Rattle.dri_base.specs.declared.colour.Pixel.{Pixel}
use Rattle.dri_base.specs.declared.colour.Rgb.{Rgb}
use Rattle.dri_base.specs.declared.shape.ClipRect.{ClipRect}
use Rattle.dri_base.specs.declared.shape.Rect.{Rect}
use Rattle.dri_card.specs.Contents.{Contents, HaveSides, Holds, Shows}
use Rattle.dri_base.specs.Rectangles.{in_rects}
use Rattle.dri_draw.proofs.Rects.{inside_at, inside_more}
use Rattle.dri_history.specs.declared.touch.Sample.{Sample}
use Rattle.dri_model.specs.Stacks.{pixel_in}
use Rattle.dri_plane.specs.Grids.{Grid}
use Rattle.dri_rect.specs.Pixels.{has_pixel, inside}

-- one rectangle more that hasn't the place
pub none_more : (rects : List Rect) (i : ℕ) (r : Rect) (x y : ℕ) (b : Bool) → slice_get rects i ≡ Some r → inside (take i rects) (pos x) (pos y) ≡ false → b ≡ has_pixel r (pos x) (pos y) → b ≡ false → inside (take (i + 1) rects) (pos x) (pos y) ≡ false
none_more rects i r x y b one none is fails = subst (λ n. inside (take n rects) (pos x) (pos y) ≡ false) (next i) (inside_more rects i r (pos x) (pos y) one ∙ both (inside (take i rects) (pos x) (pos y)) (has_pixel r (pos x) (pos y)) none (sym is ∙ fails))
  where
    next : (n : ℕ) → suc n ≡ n + 1
    next n = omega arith

    both : (p q : Bool) → p ≡ false → q ≡ false → (p || q) ≡ false
    both false q e h = h
    both true q e h = e

-- the rectangle that has it is one of the list
pub found_here : (rects : List Rect) (i : ℕ) (r : Rect) (x y : ℕ) (b : Bool) → slice_get rects i ≡ Some r → b ≡ has_pixel r (pos x) (pos y) → b ≡ true → true ≡ inside rects (pos x) (pos y)
found_here rects i r x y b one is has = sym (inside_at rects i r (pos x) (pos y) one (sym is ∙ has))

-- a pixel with a negative number isn't there
some_if : {A : Type 0} (b : Bool) (p : A) → is_some (if b then Some p else None) ≡ b
some_if true p = refl
some_if false p = refl

-- one of the rectangles has it exactly where their set does
pub any_has : (rects : List ClipRect) (x y : ℤ) → is_some (pixel_in (in_rects rects) x y) ≡ list_any (λ r. is_some (pixel_in (in_rect r) x y)) rects
any_has rects (pos x) (pos y) = some_if {A = ℕ × ℕ} (in_rects rects x y) (x, y) ∙ each rects
  where
    each : (rs : List ClipRect) → in_rects rs x y ≡ list_any (λ r. is_some (pixel_in (in_rect r) (pos x) (pos y))) rs
    each rs = λ k. list_any (λ r. sym (some_if {A = ℕ × ℕ} (in_rect r x y) (x, y)) k) rs
any_has rects (pos x) (negsuc y) = sym (none rects)
  where
    none : (rs : List ClipRect) → list_any (λ r. false) rs ≡ false
    none [] = refl
    none (r ∷ rs) = none rs
any_has rects (negsuc x) y = sym (none rects)
  where
    none : (rs : List ClipRect) → list_any (λ r. false) rs ≡ false
    none [] = refl
    none (r ∷ rs) = none rs

-- a plane's pixel
grid_at : {A : Type 0} (g : Grid A) (f : ℕ → ℕ → A) (x y : ℕ) (p : A) → g.pixels ≡ plane g.width g.height f → x < g.width → y < g.height → at g.width g.pixels x y ≡ Some p → p ≡ f x y
grid_at g f x y p is lx ly one = same_Some p (f x y) (sym one ∙ ap (λ ps. at g.width ps x y) is ∙ plane_at g.width g.height f x y lx ly)

-- what a card has at a place
pub sampled : (card : Contents) (x y : ℕ) (front : Rgb) (colour : Rgb) (depth : ℕ) → HaveSides card card.front.width card.front.height → x < card.front.width → y < card.front.height →
    at card.front.width card.front.pixels x y ≡ Some front → at card.back.width card.back.pixels x y ≡ Some colour → at card.depth.width card.depth.pixels x y ≡ Some depth →
    (back : ℕ → ℕ → Pixel) (shown : ℕ → ℕ → Rgb) → Holds card back → Shows card shown → ◌≡◌ {A = Sample} (record { front = front; back = record { colour = colour; depth = depth } }) (record { front = shown x y; back = back x y })
sampled card x y front colour depth sides lx ly at_front at_back at_depth back shown held shows = λ k. record {
  front = grid_at card.front shown x y front shows lx ly at_front k;
  back = record {
    colour = grid_at card.back (λ a b. (back a b).colour) x y colour held.colours (subst (λ n. x < n) (sym sides.back_width) lx) (subst (λ n. y < n) (sym sides.back_height) ly) at_back k;
    depth = grid_at card.depth (λ a b. (back a b).depth) x y depth held.depths (subst (λ n. x < n) (sym sides.depth_width) lx) (subst (λ n. y < n) (sym sides.depth_height) ly) at_depth k;
  };
}
