-- What is owed, and calls that touch nothing.
use Rattle.std.proofs.Common.{◌≡◌, ℕ, ◌+◌, ◌*◌, All, List, [], ◌∷◌, Bool, true, false, ◌&&◌, ◌||◌, if◌then◌else◌, Option, None, ℤ, pos, ◌-ℤ◌, refl, sym, ◌∙◌, ap, arith}
use Rattle.std.specs.Prelude.{negsuc, not}
use Rattle.dri_base.specs.declared.colour.Rgb.{Rgb}
use Rattle.dri_base.specs.declared.colour.Pixel.{Pixel}
use Rattle.dri_base.specs.declared.shape.Point.{Point}
use Rattle.dri_base.specs.declared.shape.Triangle.{Triangle}
use Rattle.dri_base.specs.Fragments.{Rules}
use Rattle.dri_base.specs.Texels.{Image}
use Rattle.dri_base.proofs.PlaneLists.{plane_same}
use Rattle.dri_base.specs.Rectangles.{in_rects}
use Rattle.dri_card.specs.Drawing.{carried_by, painted}
use Rattle.dri_model.specs.Stacks.{pixel_in}
use Rattle.dri_plane.specs.Alike.{pairs_same}
use Rattle.std.proofs.lemmas.List.Sums.{sum_by-cons}
use Rattle.dri_plane.specs.Grids.{ClipRect, IsInside, pixel_count}
use Rattle.dri_plane.specs.Moves.{StaysInside, pixel_counts}
use Rattle.dri_flip.specs.Calls.{cleared_in, copy_steps, drawn_in, fill, owed_after, swapped_in, touch}
use Rattle.dri_flip.specs.Meanings.{Holds, Meaning, Shows}
use Rattle.dri_flip.proofs.Rects.{no_place}

and_false : (b : Bool) → (b && false) ≡ false
and_false true = refl
and_false false = refl

and_true : (b : Bool) → (b && true) ≡ b
and_true true = refl
and_true false = refl

-- what is owed after a call that touches something, and one that doesn't
pub owed_none : (v : Meaning) (touches : Bool) → touches ≡ true → owed_after v touches ≡ false
owed_none v touches is = rw is (and_false v.owed)

pub owed_still : (v : Meaning) (touches : Bool) → touches ≡ false → owed_after v touches ≡ v.owed
owed_still v touches is = rw is (and_true v.owed)

-- the copy that a call doesn't make, and one that it makes
pub no_steps : (v : Meaning) (makes : Bool) → makes ≡ false → copy_steps v makes ≡ 0
no_steps v makes is = rw is (rw (and_false v.owed) refl)

pub all_steps : (v : Meaning) (makes : Bool) → makes ≡ true → copy_steps v makes ≡ copy_steps v true
all_steps v makes is = ap (copy_steps v) is

-- a call that touches part of the card makes it, one that fills it doesn't
pub part_steps : (v : Meaning) (touches fills : Bool) → touches ≡ true → fills ≡ false → copy_steps v (touches && not fills) ≡ copy_steps v true
part_steps v touches fills some part = rw (some, part) refl

pub fill_steps : (v : Meaning) (touches fills : Bool) → fills ≡ true → copy_steps v (touches && not fills) ≡ 0
fill_steps v touches fills is = no_steps v (touches && not fills) (rw is (and_false touches))

pub none_steps : (v : Meaning) (touches fills : Bool) → touches ≡ false → copy_steps v (touches && not fills) ≡ 0
none_steps v touches fills is = no_steps v (touches && not fills) (rw is refl)

-- rectangles without pixels leave all as it is
pub cleared_none : (v : Meaning) (rects : List ClipRect) (colour : Rgb) (z : ℕ) (f : ℕ → ℕ → Pixel) → pixel_counts rects ≡ 0 → Holds v f → Holds v (cleared_in rects colour z f)
cleared_none v rects colour z f none = pairs_same v.back v.depth _ _ (λ x y. rw (no_place rects x y none) refl)

pub drawn_none : (v : Meaning) (rects : List ClipRect) (origin : Point) (rules : Rules) (image : Option Image) (t : Triangle) (f : ℕ → ℕ → Pixel) → pixel_counts rects ≡ 0 → Holds v f → Holds v (drawn_in rects origin rules image t f)
drawn_none v rects origin rules image t f none = pairs_same v.back v.depth _ _ (λ x y. rw (no_place rects x y none) refl)

pub swapped_none : (v : Meaning) (rects : List ClipRect) (f : ℕ → ℕ → Pixel) (shown : ℕ → ℕ → Rgb) → pixel_counts rects ≡ 0 → Shows v shown → Shows v (swapped_in rects f shown)
swapped_none v rects f shown none shows = shows ∙ plane_same v.front.width v.front.height _ _ (λ x y lx ly. rw (no_place rects x y none) refl)

none_from : (places : ℕ → ℕ → Bool) (x y : ℤ) → ((a b : ℕ) → places a b ≡ false) → pixel_in places x y ≡ None
none_from places (pos a) (pos b) none = rw (none a b) refl
none_from places (pos a) (negsuc b) none = refl
none_from places (negsuc a) y none = refl

carried_none : {A : Type 0} (rects : List ClipRect) (dx dy : ℤ) (f : ℕ → ℕ → A) (x y : ℕ) → pixel_counts rects ≡ 0 → f x y ≡ carried_by rects dx dy f x y
carried_none rects dx dy f x y none = rw (none_from (in_rects rects) (pos x -ℤ dx) (pos y -ℤ dy) (λ a b. no_place rects a b none)) refl

pub pairs_uncarried : (v : Meaning) (rects : List ClipRect) (dx dy : ℤ) (f : ℕ → ℕ → Pixel) → pixel_counts rects ≡ 0 → Holds v f → Holds v (carried_by rects dx dy f)
pairs_uncarried v rects dx dy f none = pairs_same v.back v.depth _ _ (λ x y. carried_none rects dx dy f x y none)

pub front_uncarried : (v : Meaning) (rects : List ClipRect) (dx dy : ℤ) (shown : ℕ → ℕ → Rgb) → pixel_counts rects ≡ 0 → Shows v shown → Shows v (carried_by rects dx dy shown)
front_uncarried v rects dx dy shown none shows = shows ∙ plane_same v.front.width v.front.height _ _ (λ x y lx ly. carried_none rects dx dy shown x y none)

or_false : (b : Bool) → (b || false) ≡ b
or_false true = refl
or_false false = refl

pub unpainted : (v : Meaning) (rect : ClipRect) (colour : Rgb) (shown : ℕ → ℕ → Rgb) → pixel_counts (rect ∷ []) ≡ 0 → Shows v shown → Shows v (painted rect colour shown)
unpainted v rect colour shown none shows = shows ∙ plane_same v.front.width v.front.height _ _ (λ x y lx ly. rw (sym (or_false _) ∙ no_place (rect ∷ []) x y none) refl)

-- rectangles that stay on the card lie on it
pub stay_on : (dx dy : ℤ) (width height : ℕ) (rects : List ClipRect) → All (StaysInside dx dy width height) rects → All (λ r. IsInside r width height) rects
stay_on dx dy width height rects stay k d within = (stay k d within).inside

-- one rectangle without pixels
pub one_count : (rect : ClipRect) → pixel_counts (rect ∷ []) ≡ 0 → pixel_count rect ≡ 0
one_count rect none = let parts = sum_by-cons pixel_count rect [] in omega (arith, parts, none)

-- what is owed after a swap that doesn't fill the card
pub owed_either : (v : Meaning) (touches fills : Bool) → fills ≡ false → (fills || owed_after v touches) ≡ owed_after v touches
owed_either v touches fills part = rw part refl

-- the steps of a swap that fills the card, and of one that doesn't
pub flip_count : (v : Meaning) (rects : List ClipRect) (steps new : ℕ) → touch v rects ≡ true → fill v rects ≡ true → new ≡ steps + copy_steps v true
    → new ≡ steps + copy_steps v (touch v rects) + (if fill v rects then 0 else 2 * pixel_counts rects)
flip_count v rects steps new some is paid =
    let copy = all_steps v (touch v rects) some in
    let none : (if fill v rects then 0 else 2 * pixel_counts rects) ≡ 0 = ap (λ (b : Bool). if b then 0 else 2 * pixel_counts rects) is in
    omega (arith, copy, none, paid)

pub copy_count : (v : Meaning) (rects : List ClipRect) (steps new : ℕ) → fill v rects ≡ false → new ≡ steps + copy_steps v (touch v rects) + 2 * pixel_counts rects
    → new ≡ steps + copy_steps v (touch v rects) + (if fill v rects then 0 else 2 * pixel_counts rects)
copy_count v rects steps new part cost =
    let all : (if fill v rects then 0 else 2 * pixel_counts rects) ≡ 2 * pixel_counts rects = ap (λ (b : Bool). if b then 0 else 2 * pixel_counts rects) part in
    omega (arith, all, cost)
