-- Pixels that are laid where rectangles are moved to are carried; what stays on the card, and the card that is left.
use Rattle.std.proofs.Common.{◌≡◌, ℕ, suc, ◌+◌, ◌<◌, ◌≤◌, All, List, [], ◌∷◌, ◌++◌, map, length, get_or, take, drop, Bool, true, false, ◌&&◌, ◌||◌, if◌then◌else◌, Option, Some, None, ℤ, pos, ◌-ℤ◌, int_le, int_lt, nat_abs, refl, sym, ◌∙◌, ap, arith}
use Rattle.std.specs.Prelude.{negsuc}
use Rattle.std.specs.List.{list_any}
use Rattle.std.proofs.lemmas.Bool.{true≢false}
use Rattle.std.proofs.lemmas.Bool.Decides.{nat_tests}
use Rattle.std.proofs.lemmas.List.{drop_more, take-append-drop}
use Rattle.dri_base.specs.declared.colour.Rgb.{Rgb}
use Rattle.dri_base.specs.declared.colour.Pixel.{Pixel}
use Rattle.dri_base.specs.Planes.{plane, in_rect}
use Rattle.dri_base.proofs.PlaneLists.{plane_same}
use Rattle.dri_model.specs.Stacks.{carried, pixel_in}
use Rattle.dri_plane.specs.Formats.{shown_by}
use Rattle.dri_plane.specs.Grids.{ClipRect, Grid, Becomes, IsInside}
use Rattle.dri_plane.specs.Moves.{StaysInside, cuts, holds, laid}
use Rattle.dri_plane.specs.Runs.{HoldPairs}
use Rattle.dri_plane.proofs.Shown.{shown_becomes}
use Rattle.dri_card.specs.declared.faults.OutsideCard.{OutsideCard}
use Rattle.dri_card.specs.declared.faults.OutsideCard.TheVariants.{Clip}
use Rattle.dri_card.specs.declared.lifts.Lifts.{Lifts}
use Rattle.dri_card.specs.Contents.{Contents, HaveSides, empty_clip}
use Rattle.dri_base.specs.Rectangles.{in_rects}
use Rattle.dri_card.specs.Drawing.{IsFirstOut, carried_by}
use Rattle.dri_card.specs.Invariants.{FitTogether}
use Rattle.dri_card.specs.Lifting.{HaveRoom}

none_holds : (x y : ℤ) (rects : List ClipRect) → ((r : ClipRect) → holds x y r ≡ false) → list_any (holds x y) rects ≡ false
none_holds x y [] none = refl
none_holds x y (r ∷ rs) none = rw (none r, none_holds x y rs none) refl

and_false : (b : Bool) → (b && false) ≡ false
and_false true = refl
and_false false = refl

-- what is laid at a place is carried to it
laid_carried : {A : Type 0} (rects : List ClipRect) (x y : ℤ) (f : ℕ → ℕ → A) (other : A) → (if list_any (holds x y) rects then f (nat_abs x) (nat_abs y) else other) ≡ carried (pixel_in (in_rects rects) x y) f other
laid_carried rects (pos a) (pos b) f other = by (in_rects rects a b) where
  by : (c : Bool) → (if c then f a b else other) ≡ carried (if c then Some (a, b) else None) f other
  by true = refl
  by false = refl
laid_carried rects (pos a) (negsuc b) f other = rw (none_holds (pos a) (negsuc b) rects (λ r. and_false (int_le (pos r.x1) (pos a) && int_lt (pos a) (pos r.x2)))) refl
laid_carried rects (negsuc a) y f other = rw (none_holds (negsuc a) y rects (λ r. refl)) refl

-- a plane whose pixels are read out of rectangles into a list, and laid where those are moved to, is carried
pub plane_carried : {A : Type 0} (old new : Grid A) (rects : List ClipRect) (dx dy : ℤ) (lifted : List A)
    → ((f : ℕ → ℕ → A) → old.pixels ≡ plane old.width old.height f → lifted ≡ cuts f rects) → ((f : ℕ → ℕ → A) → lifted ≡ cuts f rects → Becomes old new (laid rects dx dy f)) → Becomes old new (carried_by rects dx dy)
plane_carried old new rects dx dy lifted reads writes = λ f was.
    writes f (reads f was) f was ∙ plane_same old.width old.height _ _ (λ x y lx ly. laid_carried rects (pos x -ℤ dx) (pos y -ℤ dy) f (f x y))

-- a part of what a plane has is carried with it
part_carried : {A B : Type 0} (part : A → B) (o : Option (ℕ × ℕ)) (f : ℕ → ℕ → A) (other : A) → carried o (λ x y. part (f x y)) (part other) ≡ part (carried o f other)
part_carried part None f other = refl
part_carried part (Some p) f other = refl

-- places of rectangles inside
inside_rects : (width height : ℕ) (rects : List ClipRect) → All (λ r. IsInside r width height) rects → (a b : ℕ) → in_rects rects a b ≡ true → (a < width) × (b < height)
inside_rects width height [] inside a b told = absurd (true≢false (sym told))
inside_rects width height (r ∷ rs) inside a b told = by (in_rect r a b) refl told (inside_rects width height rs (λ k d within. inside (suc k) d (omega arith)) a b) where
  here : IsInside r width height
  here = inside 0 r (omega arith)

  by : (c : Bool) → in_rect r a b ≡ c → (c || in_rects rs a b) ≡ true → (in_rects rs a b ≡ true → (a < width) × (b < height)) → (a < width) × (b < height)
  by true e told others = (grind (arith, nat_tests, e, here.right), grind (arith, nat_tests, e, here.bottom))
  by false e told others = others told

-- what is carried from rectangles asks only for what they have
carried_alike : {A : Type 0} (rects : List ClipRect) (x y : ℤ) (f g : ℕ → ℕ → A) (p q : A) → ((a b : ℕ) → in_rects rects a b ≡ true → f a b ≡ g a b) → p ≡ q
    → carried (pixel_in (in_rects rects) x y) f p ≡ carried (pixel_in (in_rects rects) x y) g q
carried_alike rects (pos a) (pos b) f g p q same other = by (in_rects rects a b) refl where
  by : (c : Bool) → in_rects rects a b ≡ c → carried (if c then Some (a, b) else None) f p ≡ carried (if c then Some (a, b) else None) g q
  by true e = same a b e
  by false e = other
carried_alike rects (pos a) (negsuc b) f g p q same other = other
carried_alike rects (negsuc a) y f g p q same other = other

-- what a plane shows is carried with what it keeps
pub shown_carried : {A : Type 0} (all : List A → List Rgb) (shown : A → Rgb) → ((l : List A) → all l ≡ map shown l) → (d : A) (old new : Grid A) (rects : List ClipRect) (dx dy : ℤ)
    → All (StaysInside dx dy old.width old.height) rects → Becomes old new (carried_by rects dx dy) → Becomes (shown_by all old) (shown_by all new) (carried_by rects dx dy)
shown_carried all shown each d old new rects dx dy stay becomes =
    shown_becomes all shown each d old new (carried_by rects dx dy) (carried_by rects dx dy)
    (λ g x y. sym (part_carried shown (pixel_in (in_rects rects) (pos x -ℤ dx) (pos y -ℤ dy)) g (g x y)))
    (λ f g same x y lx ly. carried_alike rects (pos x -ℤ dx) (pos y -ℤ dy) f g (f x y) (g x y) (λ a b told. let there = inside a b told in same a b there.0 there.1) (same x y lx ly))
    becomes
  where
    inside : (a b : ℕ) → in_rects rects a b ≡ true → (a < old.width) × (b < old.height)
    inside = inside_rects old.width old.height rects (λ k e within. (stay k e within).inside)

-- one plane, of which it is known what it has
pub carried_shows : {A : Type 0} (old new : Grid A) (rects : List ClipRect) (dx dy : ℤ) (f : ℕ → ℕ → A) → new.width ≡ old.width → new.height ≡ old.height → Becomes old new (carried_by rects dx dy)
    → old.pixels ≡ plane old.width old.height f → new.pixels ≡ plane new.width new.height (carried_by rects dx dy f)
carried_shows old new rects dx dy f wide high becomes holds = rw (wide, high) (becomes f holds)

-- two planes, whose pairs are carried
pub pairs_carried : (back back' : Grid Rgb) (depth depth' : Grid ℕ) (rects : List ClipRect) (dx dy : ℤ) (f : ℕ → ℕ → Pixel) → back'.width ≡ back.width → back'.height ≡ back.height → depth'.width ≡ depth.width → depth'.height ≡ depth.height
    → Becomes back back' (carried_by rects dx dy) → Becomes depth depth' (carried_by rects dx dy) → HoldPairs back depth f → HoldPairs back' depth' (carried_by rects dx dy f)
pairs_carried back back' depth depth' rects dx dy f wide high wide' high' becomes deepens holds = record {
  colours = carried_shows back back' rects dx dy (λ x y. (f x y).colour) wide high becomes holds.colours ∙ plane_same back'.width back'.height _ _ (λ x y lx ly. part_carried (λ p. p.colour) (pixel_in (in_rects rects) (pos x -ℤ dx) (pos y -ℤ dy)) f (f x y));
  depths = carried_shows depth depth' rects dx dy (λ x y. (f x y).depth) wide' high' deepens holds.depths ∙ plane_same depth'.width depth'.height _ _ (λ x y lx ly. part_carried (λ p. p.depth) (pixel_in (in_rects rects) (pos x -ℤ dx) (pos y -ℤ dy)) f (f x y));
}

-- the first rectangle that doesn't stay on the screen stands behind those that do
pub first_off : (dx dy : ℤ) (width height : ℕ) (rects : List ClipRect) (i : ℕ) (outside : OutsideCard) → i < length rects → All (StaysInside dx dy width height) (take i rects) → (StaysInside dx dy width height (get_or rects i empty_clip) → ⊥)
    → outside ≡ Clip (get_or rects i empty_clip) → IsFirstOut dx dy width height rects outside
first_off dx dy width height rects i outside within stay off named = record {
  before = take i rects;
  rect = get_or rects i empty_clip;
  after = drop (i + 1) rects;
  listed = sym (take-append-drop i rects) ∙ ap (λ l. take i rects ++ l) (drop_more rects i empty_clip within);
  stay = stay;
  off = off;
  named = named;
}

pub less_room : {T : Type 0} (m n : ℕ) (lifts : Lifts T) → m ≤ n → HaveRoom n lifts → HaveRoom m lifts
less_room m n lifts less room = record { front = omega arith; back = omega arith; depth = omega arith }

-- a card whose planes keep their sides
pub fits_still : (old new : Contents) → new.front.width ≡ old.front.width → new.front.height ≡ old.front.height → HaveSides new old.front.width old.front.height → new.registers ≡ old.registers → new.memory ≡ old.memory → new.clip ≡ old.clip
    → FitTogether old → FitTogether new
fits_still old new wide high sides registers memory clip fit = record {
  wide = rw wide fit.wide;
  high = rw high fit.high;
  sides = record {
    front_width = refl;
    front_height = refl;
    back_width = sides.back_width ∙ sym wide;
    back_height = sides.back_height ∙ sym high;
    depth_width = sides.depth_width ∙ sym wide;
    depth_height = sides.depth_height ∙ sym high;
  };
  bound = rw registers fit.bound;
  scissor = rw registers fit.scissor;
  image = rw (memory, registers) fit.image;
  clip = rw (clip, wide, high) fit.clip;
}
