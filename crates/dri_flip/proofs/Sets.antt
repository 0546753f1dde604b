-- Sets of places of a screen: whether they have a place, and whether they have all.
use Rattle.std.proofs.Common.{◌≡◌, ◌≤◌, ◌<◌, ℕ, Bool, true, false, not, refl, sym, ap, arith}
use Rattle.std.proofs.lemmas.Bool.{true≢false}
use Rattle.dri_base.specs.declared.shape.ClipRect.{ClipRect}
use Rattle.std.specs.Prelude.{List}
use Rattle.dri_base.specs.Rectangles.{in_rects}
use Rattle.dri_clips.proofs.Comparing.{below_true}
use Rattle.dri_flip.specs.Calls.{fill, touch}
use Rattle.dri_flip.specs.Meanings.{HaveSides, Meaning}
use Rattle.dri_flip.specs.Places.{has_all, has_some}
use Rattle.dri_model.proofs.Touches.{all_below_at}
use Rattle.dri_model.specs.Counting.{all_below}

not_both : (b : Bool) → b ≡ true → not b ≡ true → ⊥
not_both true e f = true≢false (sym f)
not_both false e f = true≢false (sym e)

-- a set with a place has one
pub some_has : (width height : ℕ) (places : ℕ → ℕ → Bool) (x y : ℕ) → x < width → y < height → places x y ≡ true → has_some width height places ≡ true
some_has width height places x y column row has = by_case (all_below (λ a. all_below (λ b. not (places a b)) height) width) refl
  where
    by_case : (b : Bool) → all_below (λ a. all_below (λ b. not (places a b)) height) width ≡ b → not b ≡ true
    by_case false e = refl
    by_case true e = absurd (not_both (places x y) has (all_below_at (λ b. not (places x b)) height y (all_below_at (λ a. all_below (λ b. not (places a b)) height) width x e column) row))

-- a set without one has none
pub none_has : (width height : ℕ) (places : ℕ → ℕ → Bool) → ((x y : ℕ) → x < width → y < height → places x y ≡ false) → has_some width height places ≡ false
none_has width height places none = ap not (below_true (λ a. all_below (λ b. not (places a b)) height) width (λ x column. below_true (λ b. not (places x b)) height (λ y row. ap not (none x y column row))))

-- a set with all places of a screen has one
pub all_has : (width height : ℕ) (places : ℕ → ℕ → Bool) → 1 ≤ width → 1 ≤ height → has_all width height places ≡ true → has_some width height places ≡ true
all_has width height places wide high all =
    let column : 0 < width = omega (arith, wide) in
    let row : 0 < height = omega (arith, high) in
    some_has width height places 0 0 column row (all_below_at (λ b. places 0 b) height 0 (all_below_at (λ a. all_below (λ b. places a b) height) width 0 all column) row)

-- what the rectangles of a set touch and fill
pub touch_is : (v : Meaning) (width height : ℕ) (places : ℕ → ℕ → Bool) (rects : List ClipRect) → HaveSides v width height → ((x y : ℕ) → in_rects rects x y ≡ places x y) → touch v rects ≡ has_some width height places
touch_is v width height places rects sides has = λ i. has_some (sides.front_width i) (sides.front_height i) (λ x y. has x y i)

pub fill_is : (v : Meaning) (width height : ℕ) (places : ℕ → ℕ → Bool) (rects : List ClipRect) → HaveSides v width height → ((x y : ℕ) → in_rects rects x y ≡ places x y) → fill v rects ≡ has_all width height places
fill_is v width height places rects sides has = λ i. has_all (sides.front_width i) (sides.front_height i) (λ x y. has x y i)
