-- What comes along of a window that moves.
use Rattle.std.proofs.Common.{◌≡◌, ℕ, zero, suc, ◌<◌, ◌≤◌, get_or, map, List, [], ◌∷◌, Bool, true, false, arith, refl, sym, ◌∙◌, ap, subst, Option, None, Some, is_some, w32, to_z, of_z, FitsSigned}
use Rattle.std.specs.Prelude.{ℤ, pos, negsuc, ◌+ℤ◌, ◌-ℤ◌, ◌&&◌, ◌||◌, ◌==◌, ◌↔◌, IsTrue, not, if◌then◌else◌, All, AllPairs, IfSome}
use Rattle.std.proofs.lemmas.Bool.{true≢false, and_parts, eq-eqb, eqb-true}
use Rattle.std.proofs.lemmas.Int.{ints, to_z-of_z}
use Rattle.std.proofs.lemmas.List.{get_or-map, length-map}
use Rattle.std.proofs.lemmas.List.Elements.{All-map}
use Rattle.dri_base.specs.declared.command.Change.{Change}
use Rattle.dri_base.specs.declared.command.Change.TheVariants.{Map, Unmap, Move, Resize, Raise, Lower}
use Rattle.dri_base.specs.declared.scene.Window.{Window}
use Rattle.dri_base.specs.declared.shape.ClipRect.{ClipRect}
use Rattle.dri_base.specs.declared.shape.Rect.{Rect}
use Rattle.dri_base.specs.Ranges.{IsPlace, WindowInRange}
use Rattle.dri_base.specs.Scenes.{named_by}
use Rattle.dri_rect.specs.Pixels.{SamePixels, StaysInRange, has_pixel, inside}
use Rattle.dri_model.specs.Counting.{all_below}
use Rattle.dri_model.specs.Stacks.{all_came, carried_from, clips, is_moved_whole, is_window, moves, origin, shift, was_at}
use Rattle.dri_model.proofs.Moves.{came_at}
use Rattle.dri_clips.specs.declared.layout.Layout.{Layout}
use Rattle.dri_clips.specs.declared.mending.Mended.{Mended}
use Rattle.dri_clips.specs.declared.mending.Patch.{Patch}
use Rattle.dri_clips.specs.declared.moving.Motion.{Motion}
use Rattle.dri_clips.specs.declared.touched.Carry.{Carry}
use Rattle.dri_clips.specs.Boards.{shows}
use Rattle.dri_clips.specs.Gains.{AreOnScreen, clip_rect}
use Rattle.dri_clips.specs.Layouts.{IsPlaced, screen_rect, top_at}
use Rattle.dri_clips.specs.Mends.{AreMended, IsMended, list_or}
use Rattle.dri_clips.specs.Motions.{AreMoved, IsAlong, IsCarryOf, IsMotion, IsPacked, moved_in, moved_whole}
use Rattle.dri_base.specs.Rectangles.{AreApart, in_rects}
use Rattle.dri_clips.specs.Paints.{IsCarried, IsCarry, IsNear, StaysOnScreen, moves_whole}
use Rattle.dri_clips.proofs.Comparing.{below_true, decided}
use Rattle.dri_clips.proofs.Gaining.{larger, some_shown}
use Rattle.dri_clips.proofs.Lists.{list_is, list_put}
use Rattle.dri_clips.proofs.Painting.{card_rect_stays, card_rects_apart, card_rects_have, no_rect, place, rects_on}
use Rattle.dri_clips.proofs.Walking.{shown}

-- how far a window may be moved
near_fits : (z : ℤ) → IsNear z → FitsSigned w32 z
near_fits z n = omega (arith, ints, n)

pub near_same : (z : ℤ) → IsNear z → to_z w32 (of_z w32 z) ≡ z
near_same z n = to_z-of_z w32 z (near_fits z n)

pub near_back : (z : ℤ) → IsNear z → to_z w32 (of_z w32 (pos 0 -ℤ to_z w32 (of_z w32 z))) ≡ pos 0 -ℤ z
near_back z n = rw (near_same z n) (near_same (pos 0 -ℤ z) (omega (arith, ints, n), omega (arith, ints, n)))

place_same : (z : ℤ) → IsPlace z → to_z w32 (of_z w32 z) ≡ z
place_same z p = to_z-of_z w32 z (omega (arith, ints, p))

pub places_fit : (a b : ℤ) → IsPlace a → IsPlace b → FitsSigned w32 (to_z w32 (of_z w32 a) -ℤ to_z w32 (of_z w32 b))
places_fit a b p q = rw (place_same a p, place_same b q) (omega (arith, ints, p, q))

pub places_near : (a b : ℤ) → IsPlace a → IsPlace b → IsNear (a -ℤ b)
places_near a b p q = (omega (arith, ints, p, q), omega (arith, ints, p, q))

pub places_apart : (a b : ℤ) → IsPlace a → IsPlace b → to_z w32 (of_z w32 (to_z w32 (of_z w32 a) -ℤ to_z w32 (of_z w32 b))) ≡ a -ℤ b
places_apart a b p q = rw (place_same a p, place_same b q) (near_same (a -ℤ b) (places_near a b p q))

pub origin_placed : (ws : List Window) (n : ℕ) → All WindowInRange ws → IsPlace (origin ws n).0 × IsPlace (origin ws n).1
origin_placed [] n all = ((omega (arith, ints), omega (arith, ints)), (omega (arith, ints), omega (arith, ints)))
origin_placed (w ∷ ws) n all = by (w.number == n) (origin_placed ws n (λ k d b. all (suc k) d (omega arith)))
  where
    first : WindowInRange w
    first = all 0 w (omega arith)

    by : (b : Bool) → IsPlace (origin ws n).0 × IsPlace (origin ws n).1 → IsPlace (if b then (w.x, w.y) else origin ws n).0 × IsPlace (if b then (w.x, w.y) else origin ws n).1
    by true p = (first.left, first.top)
    by false p = p

pub corner_placed : (ws : List Window) (n : ℕ) (x y : ℤ) → All WindowInRange ws → (x, y) ≡ origin ws n → IsPlace x × IsPlace y
corner_placed ws n x y all e = let p = origin_placed ws n all in (subst IsPlace (sym (ap (λ (o : ℤ × ℤ). o.0) e)) p.0, subst IsPlace (sym (ap (λ (o : ℤ × ℤ). o.1) e)) p.1)

-- a window that is moved is on the board, so its number is low
pub placed_low : (n i : ℕ) (ws : List Window) → IsPlaced n i ws → All WindowInRange ws → n < 65
placed_low n i [] placed all = absurd placed
placed_low n zero (w ∷ ws) placed all = let first = all 0 w (omega arith) in let same = eqb-true w.number n placed in omega (arith, first.numbered, same)
placed_low n (suc i) (w ∷ ws) placed all = placed_low n i ws placed.1 (λ k d b. all (suc k) d (omega arith))

pub moves_low : (change : Change) → named_by change < 65 → IfSome (moves change) (λ n. n < 65)
moves_low (Move n x y) low = low
moves_low (Map n) low = tt
moves_low (Unmap n) low = tt
moves_low (Resize n width height) low = tt
moves_low (Raise n) low = tt
moves_low (Lower n) low = tt

-- pixels of the screen, moved
pub stays_range : (dx dy ex ey : ℤ) (rs : List Rect) → ex ≡ dx → ey ≡ dy → IsNear dx → IsNear dy → AreOnScreen 1024 1024 rs → StaysInRange ex ey rs
stays_range dx dy ex ey rs e f a b on x y h =
    let p = place 1024 1024 x y (on x y h) in
    (omega (arith, ints, p.left, a, e), omega (arith, ints, p.right, a, e), omega (arith, ints, p.top, b, f), omega (arith, ints, p.bottom, b, f))

pub opposite_near : (z : ℤ) → IsNear z → IsNear (pos 0 -ℤ z)
opposite_near z n = (omega (arith, ints, n), omega (arith, ints, n))

pub part_on : (was other rs : List Rect) → ((x y : ℤ) → inside rs x y ≡ (inside was x y && inside other x y)) → AreOnScreen 1024 1024 was → AreOnScreen 1024 1024 rs
part_on was other rs is on x y h = on x y (and_parts (inside was x y) (inside other x y) (sym (is x y) ∙ h)).0

-- regions moved and cut
pub carried_so : (dx dy ex ey : ℤ) (was now back carried : List Rect) → ex ≡ pos 0 -ℤ dx → ey ≡ pos 0 -ℤ dy → ((x y : ℤ) → inside back x y ≡ inside now (x -ℤ ex) (y -ℤ ey)) → ((x y : ℤ) → inside carried x y ≡ (inside was x y && inside back x y)) →
    (x y : ℤ) → inside carried x y ≡ (inside was x y && inside now (x +ℤ dx) (y +ℤ dy))
carried_so dx dy ex ey was now back carried e f b c x y = c x y ∙ ap (λ t. inside was x y && t) (b x y ∙ (λ i. inside now (column i) (row i)))
  where
    column : x -ℤ ex ≡ x +ℤ dx
    column = omega (arith, ints, e)

    row : y -ℤ ey ≡ y +ℤ dy
    row = omega (arith, ints, f)

back_again : (z d : ℤ) → z -ℤ d +ℤ d ≡ z
back_again z d = omega (arith, ints)

there_again : (z d : ℤ) → z +ℤ d -ℤ d ≡ z
there_again z d = omega (arith, ints)

pub arrived_so : (dx dy ex ey : ℤ) (was now carried arrived : List Rect) → ex ≡ dx → ey ≡ dy → ((x y : ℤ) → inside carried x y ≡ (inside was x y && inside now (x +ℤ dx) (y +ℤ dy))) → ((x y : ℤ) → inside arrived x y ≡ inside carried (x -ℤ ex) (y -ℤ ey)) →
    (x y : ℤ) → inside arrived x y ≡ (inside was (x -ℤ dx) (y -ℤ dy) && inside now x y)
arrived_so dx dy ex ey was now carried arrived e f c a x y =
    a x y ∙ (λ i. inside carried (x -ℤ e i) (y -ℤ f i)) ∙ c (x -ℤ dx) (y -ℤ dy) ∙ (λ i. inside was (x -ℤ dx) (y -ℤ dy) && inside now (back_again x dx i) (back_again y dy i))

pub fresh_so : (dx dy : ℤ) (was now arrived fresh : List Rect) → ((x y : ℤ) → inside arrived x y ≡ (inside was (x -ℤ dx) (y -ℤ dy) && inside now x y)) → ((x y : ℤ) → inside fresh x y ≡ (inside now x y && not (inside arrived x y))) →
    (x y : ℤ) → inside fresh x y ≡ (inside now x y && not (inside was (x -ℤ dx) (y -ℤ dy)))
fresh_so dx dy was now arrived fresh a f x y = f x y ∙ ap (λ t. inside now x y && not t) (a x y) ∙ by (inside now x y) (inside was (x -ℤ dx) (y -ℤ dy))
  where
    by : (n w : Bool) → (n && not (w && n)) ≡ (n && not w)
    by true true = refl
    by true false = refl
    by false w = refl

-- all is carried, and nothing is fresh
all_carried : (dx dy : ℤ) (was now carried : List Rect) → ((x y : ℤ) → inside carried x y ≡ (inside was x y && inside now (x +ℤ dx) (y +ℤ dy))) → AreMoved dx dy was now → SamePixels carried was
all_carried dx dy was now carried c moved x y = c x y ∙ ap (λ t. inside was x y && t) (moved (x +ℤ dx) (y +ℤ dy) ∙ (λ i. inside was (there_again x dx i) (there_again y dy i))) ∙ own (inside was x y)
  where
    own : (b : Bool) → (b && b) ≡ b
    own true = refl
    own false = refl

all_arrived : (dx dy : ℤ) (was now arrived : List Rect) → ((x y : ℤ) → inside arrived x y ≡ (inside was (x -ℤ dx) (y -ℤ dy) && inside now x y)) → AreMoved dx dy was now → SamePixels arrived now
all_arrived dx dy was now arrived a moved x y = a x y ∙ ap (λ t. t && inside now x y) (sym (moved x y)) ∙ own (inside now x y)
  where
    own : (b : Bool) → (b && b) ≡ b
    own true = refl
    own false = refl

-- where all is carried, the window moves whole just where nothing is fresh
pub whole_if_arrived : (dx dy ex ey : ℤ) (was now carried arrived : List Rect) (whole second : Bool) → whole ≡ second → ex ≡ dx → ey ≡ dy → carried ≡ was → ((x y : ℤ) → inside arrived x y ≡ (inside was (x -ℤ dx) (y -ℤ dy) && inside now x y)) →
    ((x y : ℤ) → inside arrived x y ≡ inside carried (x -ℤ ex) (y -ℤ ey)) → (SamePixels arrived now → arrived ≡ now) → (IsTrue second ↔ (arrived ≡ now)) → IsTrue whole ↔ AreMoved dx dy was now
whole_if_arrived dx dy ex ey was now carried arrived whole second same e f first a goes canonical tells = (yes, no)
  where
    yes : IsTrue whole → AreMoved dx dy was now
    yes w x y = ap (λ (rs : List Rect). inside rs x y) (sym (tells.0 (sym same ∙ w))) ∙ goes x y ∙ (λ i. inside (first i) (x -ℤ e i) (y -ℤ f i))

    no : AreMoved dx dy was now → IsTrue whole
    no moved = same ∙ tells.1 (canonical (all_arrived dx dy was now arrived a moved))

-- where something stays behind, it doesn't
pub whole_if_carried : (dx dy : ℤ) (was now carried : List Rect) (whole first : Bool) → whole ≡ false → first ≡ false → ((x y : ℤ) → inside carried x y ≡ (inside was x y && inside now (x +ℤ dx) (y +ℤ dy))) →
    (SamePixels carried was → carried ≡ was) → (IsTrue first ↔ (carried ≡ was)) → IsTrue whole ↔ AreMoved dx dy was now
whole_if_carried dx dy was now carried whole first none not_first c canonical tells = (λ w. absurd (true≢false (sym w ∙ none)), λ moved. absurd (true≢false (sym (tells.1 (canonical (all_carried dx dy was now carried c moved))) ∙ not_first)))

-- the same of windows
pub list_on : (width height : ℕ) (ws : List Window) (n : ℕ) (rs : List Rect) → ((x y : ℤ) → inside rs x y ≡ shows width height ws n x y) → AreOnScreen width height rs
list_on width height ws n rs is x y h = (and_parts (has_pixel (screen_rect width height) x y) (is_window n (top_at ws x y)) (shown width height ws n x y ∙ sym (is x y) ∙ h)).0

pub new_shown : (old : Layout) (new : List Window) (n : ℕ) (m : Mended) (was now : List Rect) (o : Option Patch) → n < 65 → AreMended old new m → ((x y : ℤ) → inside was x y ≡ shows old.width old.height old.stack n x y) → o ≡ get_or m.windows.items n o → now ≡ list_or o was →
    (x y : ℤ) → inside now x y ≡ shows old.width old.height new n x y
new_shown old new n m was now o low mended was_is at is x y =
    ap (λ (rs : List Rect). inside rs x y) is
    ∙ list_put old.width old.height old.stack new n was o was_is (subst (λ (p : Option Patch). IsMended old.width old.height old.stack new n p) (list_is m.windows.items n o low mended.room at) (mended.lists n low)) x y

-- where a window shows, in a stack in which it came along with all its pixels, it showed
came_along : (width height : ℕ) (old new : List Window) (n : ℕ) (x y : ℤ) → all_came width height old new n ≡ true → shows width height new n x y ≡ true → shows width height old n (x -ℤ (shift old new n).0) (y -ℤ (shift old new n).1) ≡ true
came_along width height old new n (pos x) (pos y) all h = sym (some_shown width height old n (pos x -ℤ (shift old new n).0) (pos y -ℤ (shift old new n).1)) ∙ came_at width height old new n x y all h
came_along width height old new n (pos x) (negsuc y) all h = absurd (true≢false (sym h))
came_along width height old new n (negsuc x) y all h = absurd (true≢false (sym h))

same_if : (a b : Bool) → (a ≡ true → b ≡ true) → (b ≡ true → a ≡ true) → a ≡ b
same_if true b f g = sym (f refl)
same_if false true f g = g refl
same_if false false f g = refl

opposite : (z a b : ℤ) → z -ℤ (b -ℤ a) -ℤ (a -ℤ b) ≡ z
opposite z a b = omega (arith, ints)

all_come : (width height : ℕ) (old new : List Window) (n : ℕ) → ((x y : ℤ) → shows width height new n x y ≡ true → shows width height old n (x -ℤ (shift old new n).0) (y -ℤ (shift old new n).1) ≡ true) → all_came width height old new n ≡ true
all_come width height old new n comes =
    below_true (λ x. all_below (λ y. not (clips width height new n x y) || is_some (was_at width height old new n x y)) height) width
    (λ x a. below_true (λ y. not (clips width height new n x y) || is_some (was_at width height old new n x y)) height (λ y b. by x y (clips width height new n x y) refl))
  where
    by : (x y : ℕ) (b : Bool) → clips width height new n x y ≡ b → (not b || is_some (was_at width height old new n x y)) ≡ true
    by x y true h = some_shown width height old n (pos x -ℤ (shift old new n).0) (pos y -ℤ (shift old new n).1) ∙ comes (pos x) (pos y) h
    by x y false h = refl

moved_whole_so : (width height : ℕ) (old new : List Window) (n : ℕ) (whole : Bool) → (IsTrue whole ↔ ((x y : ℤ) → shows width height new n x y ≡ shows width height old n (x -ℤ (shift old new n).0) (y -ℤ (shift old new n).1))) → whole ≡ is_moved_whole width height old new (Some n) n
moved_whole_so width height old new n whole tells = decided whole (is_moved_whole width height old new (Some n) n) yes no
  where
    told : (t : Bool) → t ≡ true → IsTrue t
    told t f = f

    yes : whole ≡ true → is_moved_whole width height old new (Some n) n ≡ true
    yes w = rw (eq-eqb n n refl, all_come width height old new n (λ x y h. sym (tells.0 (told whole w) x y) ∙ h)) (all_come width height new old n goes)
      where
        goes : (x y : ℤ) → shows width height old n x y ≡ true → shows width height new n (x -ℤ (shift new old n).0) (y -ℤ (shift new old n).1) ≡ true
        goes x y h =
            tells.0 (told whole w) (x -ℤ (shift new old n).0) (y -ℤ (shift new old n).1)
            ∙ (λ i. shows width height old n (opposite x (origin new n).0 (origin old n).0 i) (opposite y (origin new n).1 (origin old n).1 i)) ∙ h

    no : is_moved_whole width height old new (Some n) n ≡ true → whole ≡ true
    no h = tells.1 (λ x y. same_if (shows width height new n x y) (shows width height old n (x -ℤ (shift old new n).0) (y -ℤ (shift old new n).1)) (came_along width height old new n x y both.0) (back x y))
      where
        both : (all_came width height old new n ≡ true) × (all_came width height new old n ≡ true)
        both = and_parts (all_came width height old new n) (all_came width height new old n) (and_parts (n == n) (all_came width height old new n && all_came width height new old n) h).1

        back : (x y : ℤ) → shows width height old n (x -ℤ (shift old new n).0) (y -ℤ (shift old new n).1) ≡ true → shows width height new n x y ≡ true
        back x y was =
            sym (λ i. shows width height new n (opposite x (origin old n).0 (origin new n).0 i) (opposite y (origin old n).1 (origin new n).1 i))
            ∙ came_along width height new old n (x -ℤ (shift old new n).0) (y -ℤ (shift old new n).1) both.1 was

pub motion_is : (width height : ℕ) (old new : List Window) (n : ℕ) (dx dy : ℤ) (was now : List Rect) (m : Motion) → ((x y : ℤ) → inside was x y ≡ shows width height old n x y) → ((x y : ℤ) → inside now x y ≡ shows width height new n x y) →
    dx ≡ (shift old new n).0 → dy ≡ (shift old new n).1 → IsNear dx → IsNear dy → IsAlong n dx dy was now m → IsMotion width height old new m
motion_is width height old new n dx dy was now m was_is now_is e f a b is = record {
  way = λ i. (first i, second i);
  across = subst IsNear (sym is.across) a;
  down = subst IsNear (sym is.down) b;
  carried = λ x y. is.carried x y ∙ (λ i. was_is x y i && now_is (x +ℤ dx) (y +ℤ dy) i) ∙ (λ i. shows width height old (number i) x y && shows width height new (number i) (x +ℤ across i) (y +ℤ down i));
  fresh = λ x y. is.fresh x y ∙ (λ i. now_is x y i && not (was_is (x -ℤ dx) (y -ℤ dy) i)) ∙ gained x y;
  whole = subst (λ (k : ℕ). m.whole ≡ is_moved_whole width height old new (Some k) k) number (moved_whole_so width height old new n m.whole (λ w x y. translated (is.whole.0 w) x y, λ g. is.whole.1 (λ x y. now_is x y ∙ g x y ∙ sym (at_shift x y) ∙ sym (was_is (x -ℤ dx) (y -ℤ dy)))));
}
  where
    number : n ≡ m.window
    number = sym is.is

    across : dx ≡ m.dx
    across = sym is.across

    down : dy ≡ m.dy
    down = sym is.down

    first : m.dx ≡ (shift old new m.window).0
    first = is.across ∙ e ∙ ap (λ (k : ℕ). (shift old new k).0) number

    second : m.dy ≡ (shift old new m.window).1
    second = is.down ∙ f ∙ ap (λ (k : ℕ). (shift old new k).1) number

    at_shift : (x y : ℤ) → shows width height old n (x -ℤ dx) (y -ℤ dy) ≡ shows width height old n (x -ℤ (shift old new n).0) (y -ℤ (shift old new n).1)
    at_shift x y = λ i. shows width height old n (x -ℤ e i) (y -ℤ f i)

    translated : AreMoved dx dy was now → (x y : ℤ) → shows width height new n x y ≡ shows width height old n (x -ℤ (shift old new n).0) (y -ℤ (shift old new n).1)
    translated moved x y = sym (now_is x y) ∙ moved x y ∙ was_is (x -ℤ dx) (y -ℤ dy) ∙ at_shift x y

    gained : (x y : ℤ) → (shows width height new n x y && not (shows width height old n (x -ℤ dx) (y -ℤ dy))) ≡
        (shows width height new m.window x y && not (if m.window == m.window then shows width height old m.window (x -ℤ (shift old new m.window).0) (y -ℤ (shift old new m.window).1) else shows width height old m.window x y))
    gained x y = rw (eq-eqb m.window m.window refl) (ap (λ t. shows width height new n x y && not t) (at_shift x y) ∙ (λ i. shows width height new (number i) x y && not (shows width height old (number i) (x -ℤ (shift old new (number i)).0) (y -ℤ (shift old new (number i)).1))))

-- what is carried, by pixels
some_carried : (width height : ℕ) (old new : List Window) (n x y : ℕ) → is_some (carried_from width height old new (Some n) x y) ≡ (clips width height new n x y && shows width height old n (pos x -ℤ (shift old new n).0) (pos y -ℤ (shift old new n).1))
some_carried width height old new n x y = by (clips width height new n x y)
  where
    by : (b : Bool) → is_some (if b then was_at width height old new n x y else None) ≡ (b && shows width height old n (pos x -ℤ (shift old new n).0) (pos y -ℤ (shift old new n).1))
    by true = some_shown width height old n (pos x -ℤ (shift old new n).0) (pos y -ℤ (shift old new n).1)
    by false = refl

none_of : {X : Type 0} (o : Option X) → is_some o ≡ false → o ≡ None
none_of None e = refl
none_of (Some a) e = absurd (true≢false e)

and_flip : (a b : Bool) → (a && b) ≡ (b && a)
and_flip true true = refl
and_flip true false = refl
and_flip false true = refl
and_flip false false = refl

nothing_carried : (width height : ℕ) (old new : List Window) (m : Motion) → IsMotion width height old new m → m.carried ≡ [] → (x y : ℕ) → carried_from width height old new (Some m.window) x y ≡ None
nothing_carried width height old new m is none x y = none_of (carried_from width height old new (Some m.window) x y)
    (some_carried width height old new m.window x y ∙ and_flip (clips width height new m.window x y) _
    ∙ (λ i. shows width height old m.window (pos x -ℤ (sym dx i)) (pos y -ℤ (sym dy i)) && shows width height new m.window (sym (back_again (pos x) m.dx) i) (sym (back_again (pos y) m.dy) i))
    ∙ sym (is.carried (pos x -ℤ m.dx) (pos y -ℤ m.dy)) ∙ ap (λ (rs : List Rect). inside rs (pos x -ℤ m.dx) (pos y -ℤ m.dy)) none)
  where
    dx : m.dx ≡ (shift old new m.window).0
    dx = ap (λ (p : ℤ × ℤ). p.0) is.way

    dy : m.dy ≡ (shift old new m.window).1
    dy = ap (λ (p : ℤ × ℤ). p.1) is.way

pub carried_on : (width height : ℕ) (old new : List Window) (m : Motion) → IsMotion width height old new m → AreOnScreen width height m.carried
carried_on width height old new m is x y h =
    (and_parts (has_pixel (screen_rect width height) x y) (is_window m.window (top_at old x y)) (shown width height old m.window x y ∙ (and_parts (shows width height old m.window x y) _ (sym (is.carried x y) ∙ h)).0)).0

pub motion_on : (width height : ℕ) (old new : List Window) (motion : Option Motion) → width ≤ 1024 → height ≤ 1024 → IfSome motion (IsMotion width height old new) → IfSome motion (λ m. AreOnScreen 1024 1024 m.carried)
motion_on width height old new None a b is = tt
motion_on width height old new (Some m) a b is = larger width height m.carried a b (carried_on width height old new m is)

carried_stays : (width height : ℕ) (old new : List Window) (m : Motion) → IsMotion width height old new m → (x y : ℤ) → inside m.carried x y ≡ true → has_pixel (screen_rect width height) (x +ℤ m.dx) (y +ℤ m.dy) ≡ true
carried_stays width height old new m is x y h =
    (and_parts (has_pixel (screen_rect width height) (x +ℤ m.dx) (y +ℤ m.dy)) (is_window m.window (top_at new (x +ℤ m.dx) (y +ℤ m.dy)))
    (shown width height new m.window (x +ℤ m.dx) (y +ℤ m.dy) ∙ (and_parts (shows width height old m.window x y) (shows width height new m.window (x +ℤ m.dx) (y +ℤ m.dy)) (sym (is.carried x y) ∙ h)).1)).0

pub carry_is_packed : (width height : ℕ) (old new : List Window) (m : Motion) (carry : Carry) → IsMotion width height old new m → IsPacked m carry → IsCarry width height old new m.window carry
carry_is_packed width height old new m carry is packed = record {
  some = rw packed.rects (omega (arith, packed.some, length-map m.carried clip_rect));
  each = rw (packed.rects, packed.across, packed.down) (All-map (StaysOnScreen m.dx m.dy width height) clip_rect m.carried (card_rect_stays width height m.dx m.dy m.carried packed.proper on (carried_stays width height old new m is)));
  apart = rw packed.rects apart;
  pixels = λ x y. ap (λ (rs : List ClipRect). in_rects rs x y) packed.rects ∙ card_rects_have width height m.carried (rects_on width height m.carried packed.proper on) x y ∙ is.carried (pos x) (pos y) ∙ sets x y;
  way = (λ i. (packed.across i, packed.down i)) ∙ is.way;
  across = subst IsNear (sym packed.across) is.across;
  down = subst IsNear (sym packed.down) is.down;
}
  where
    on : AreOnScreen width height m.carried
    on = carried_on width height old new m is

    apart : AllPairs AreApart (map clip_rect m.carried)
    apart i j d up below =
        let room = length-map m.carried clip_rect in
        rw (get_or-map clip_rect m.carried i no_rect d (omega arith), get_or-map clip_rect m.carried j no_rect d (omega arith)) (card_rects_apart width height m.carried packed.apart packed.proper on i j no_rect up (omega arith))

    forth : (z d a b : ℤ) → d ≡ b -ℤ a → z +ℤ d ≡ z -ℤ (a -ℤ b)
    forth z d a b e = omega (arith, ints, e)

    dx : m.dx ≡ (shift old new m.window).0
    dx = ap (λ (p : ℤ × ℤ). p.0) is.way

    dy : m.dy ≡ (shift old new m.window).1
    dy = ap (λ (p : ℤ × ℤ). p.1) is.way

    sets : (x y : ℕ) → (shows width height old m.window (pos x) (pos y) && shows width height new m.window (pos x +ℤ m.dx) (pos y +ℤ m.dy)) ≡ is_some (carried_from width height new old (Some m.window) x y)
    sets x y =
        (λ i. clips width height old m.window x y && shows width height new m.window (forth (pos x) m.dx (origin old m.window).0 (origin new m.window).0 dx i) (forth (pos y) m.dy (origin old m.window).1 (origin new m.window).1 dy i))
        ∙ sym (some_carried width height new old m.window x y)

pub carry_is_carried : (width height : ℕ) (old new : List Window) (motion : Option Motion) (carry : Option Carry) → IfSome motion (IsMotion width height old new) → IsCarryOf motion carry → IsCarried width height old new (moved_in motion) carry
carry_is_carried width height old new None None is of = λ x y. refl
carry_is_carried width height old new None (Some carry) is of = absurd of
carry_is_carried width height old new (Some m) None is of = nothing_carried width height old new m is of
carry_is_carried width height old new (Some m) (Some carry) is of = carry_is_packed width height old new m carry is of

pub whole_is_moved : (width height : ℕ) (old new : List Window) (motion : Option Motion) → IfSome motion (IsMotion width height old new) → moved_whole motion ≡ moves_whole width height old new (moved_in motion)
whole_is_moved width height old new None is = refl
whole_is_moved width height old new (Some m) is = is.whole
