-- The stack after a change, by places.
use Rattle.std.proofs.Common.{◌≡◌, ℕ, zero, suc, ◌<◌, ◌≤◌, ◌+◌, ◌*◌, ◌-◌, length, set, take, drop, map, filter, List, [], ◌∷◌, ◌++◌, Bool, true, false, cond, arith, refl, sym, ◌∙◌, ap, subst, Option, None, Some, slice_get, is_some}
use Rattle.std.specs.Prelude.{◌==◌, ◌&&◌, ◌||◌, ℤ, not, All, if◌then◌else◌, IfSome}
use Rattle.std.specs.List.{insert, remove}
use Rattle.std.proofs.lemmas.Bool.{true≢false, and_parts, eqb-true}
use Rattle.std.proofs.lemmas.List.{take_all, drop_all, length-append, length-take, length-drop}
use Rattle.std.proofs.lemmas.List.Elements.{All-map, All-append, All-filter, All-weaker, filter-append}
use Rattle.indexmap.specs.IndexMap.{move_index}
use Rattle.dri_base.specs.declared.scene.Window.{Window}
use Rattle.dri_base.specs.Ranges.{IsPlace, IsSide, WindowInRange, is_corner, is_side}
use Rattle.dri_base.proofs.RegionSizes.{corner_is, side_is}
use Rattle.dri_base.specs.declared.command.Change.{Change}
use Rattle.dri_base.specs.declared.command.Change.TheVariants.{Map, Unmap, Move, Resize, Raise, Lower}
use Rattle.dri_base.specs.Scenes.{named_by}
use Rattle.dri_model.specs.Stacks.{Refusal, altered, changed, refusal, refused_at, refused_for, stack_after, unless_refused, window_in, without_owner, unmapped}
use Rattle.dri_clips.specs.Areas.{is_reached, meets_window, named_in, others, reached, reached_after}
use Rattle.dri_clips.specs.Boards.{is_mapped}
use Rattle.dri_clips.specs.Mends.{mending_cost, moving_cost}
use Rattle.dri_clips.specs.Layouts.{AreDistinct, IsAbsent, IsPlaced, SameNumbers, window_rect}
use Rattle.dri_clips.specs.Refusals.{altered_by, destination}
use Rattle.dri_clips.proofs.Areas.{count_weaker}
use Rattle.dri_clips.proofs.Placing.{placed_below, placed_here, window_at, window_absent}

-- where no window has the number nothing is altered, kept or left out
altered_none : (n : ℕ) (f : Window → Window) (ws : List Window) → IsAbsent n ws → altered n f ws ≡ ws
altered_none n f [] a = refl
altered_none n f (w ∷ ws) a = rw a.0 (ap (λ vs. w ∷ vs) (altered_none n f ws a.1))

kept_none : (n : ℕ) (ws : List Window) → IsAbsent n ws → filter (λ w. w.number == n) ws ≡ []
kept_none n [] a = refl
kept_none n (w ∷ ws) a = rw a.0 (kept_none n ws a.1)

rest_all : (n : ℕ) (ws : List Window) → IsAbsent n ws → filter (λ w. not (w.number == n)) ws ≡ ws
rest_all n [] a = refl
rest_all n (w ∷ ws) a = rw a.0 (ap (λ vs. w ∷ vs) (rest_all n ws a.1))

gone : (n : ℕ) (w : Window) (ws : List Window) → (w.number == n) ≡ true → IsAbsent w.number ws → IsAbsent n ws
gone n w ws p a = subst (λ (k : ℕ). IsAbsent k ws) (eqb-true w.number n p) a

-- one window is altered, kept or left out
altered_one : (n i : ℕ) (f : Window → Window) (ws : List Window) (w : Window) → IsPlaced n i ws → AreDistinct ws → slice_get ws i ≡ Some w → altered n f ws ≡ set ws i (f w)
altered_one n i f [] w p a e = absurd p
altered_one n zero f (v ∷ ws) w p a e = let same : v ≡ w = cc in rw p (ap (λ vs. f v ∷ vs) (altered_none n f ws (gone n v ws p a.0)) ∙ ap (λ (u : Window). f u ∷ ws) same)
altered_one n (suc i) f (v ∷ ws) w p a e = rw p.0 (ap (λ vs. v ∷ vs) (altered_one n i f ws w p.1 a.1 e))

kept_one : (n i : ℕ) (ws : List Window) (w : Window) → IsPlaced n i ws → AreDistinct ws → slice_get ws i ≡ Some w → filter (λ v. v.number == n) ws ≡ w ∷ []
kept_one n i [] w p a e = absurd p
kept_one n zero (v ∷ ws) w p a e = let same : v ≡ w = cc in rw p (ap (λ vs. v ∷ vs) (kept_none n ws (gone n v ws p a.0)) ∙ ap (λ (u : Window). u ∷ []) same)
kept_one n (suc i) (v ∷ ws) w p a e = rw p.0 (kept_one n i ws w p.1 a.1 e)

rest_one : (n i : ℕ) (ws : List Window) → IsPlaced n i ws → AreDistinct ws → filter (λ v. not (v.number == n)) ws ≡ remove ws i
rest_one n i [] p a = absurd p
rest_one n zero (v ∷ ws) p a = rw p (rest_all n ws (gone n v ws p a.0))
rest_one n (suc i) (v ∷ ws) p a = rw p.0 (ap (λ vs. v ∷ vs) (rest_one n i ws p.1 a.1))

-- a window moved to its own place, to the top and to the bottom
put_back : {X : Type 0} (xs : List X) (i : ℕ) (x : X) → slice_get xs i ≡ Some x → insert (remove xs i) i x ≡ xs
put_back [] i x e = absurd (true≢false (ap (λ o. is_some o) (sym e)))
put_back (y ∷ xs) zero x e = let same : y ≡ x = cc in ap (λ z. z ∷ xs) (sym same)
put_back (y ∷ xs) (suc i) x e = ap (λ ys. y ∷ ys) (put_back xs i x e)

put_last : {X : Type 0} (xs : List X) (n : ℕ) (x : X) → length xs ≡ n → insert xs n x ≡ xs ++ x ∷ []
put_last xs n x e = (λ j. take_all n xs (omega arith) j ++ x ∷ drop_all n xs (omega arith) j)

length_removed : {X : Type 0} (xs : List X) (i : ℕ) → i < length xs → length (remove xs i) ≡ length xs - 1
length_removed xs i below =
    let a = length-append (take i xs) (drop (suc i) xs) in
    let t = length-take i xs in
    let d = length-drop (suc i) xs in
    omega arith

pub move_by : {X : Type 0} (xs : List X) (i j : ℕ) (x : X) → slice_get xs i ≡ Some x → move_index xs i j ≡ insert (remove xs i) j x
move_by xs i j x e = rw e refl

got_set : {X : Type 0} (xs : List X) (i : ℕ) (x y : X) → slice_get xs i ≡ Some y → slice_get (set xs i x) i ≡ Some x
got_set [] i x y e = absurd (true≢false (ap (λ o. is_some o) (sym e)))
got_set (z ∷ xs) zero x y e = refl
got_set (z ∷ xs) (suc i) x y e = got_set xs i x y e

set_same : {X : Type 0} (xs : List X) (i : ℕ) (x : X) → slice_get xs i ≡ Some x → set xs i x ≡ xs
set_same [] i x e = refl
set_same (y ∷ xs) zero x e = let same : y ≡ x = cc in ap (λ z. z ∷ xs) (sym same)
set_same (y ∷ xs) (suc i) x e = ap (λ ys. y ∷ ys) (set_same xs i x e)

in_place : (n i : ℕ) (f : Window → Window) (ws : List Window) (w : Window) → IsPlaced n i ws → AreDistinct ws → slice_get ws i ≡ Some w → move_index (set ws i (f w)) i i ≡ altered n f ws
in_place n i f ws w p a e =
    let got = got_set ws i (f w) w e in
    move_by (set ws i (f w)) i i (f w) got ∙ put_back (set ws i (f w)) i (f w) got ∙ sym (altered_one n i f ws w p a e)

pub changed_at : (change : Change) (i : ℕ) (ws : List Window) (w : Window) → IsPlaced (named_by change) i ws → AreDistinct ws → slice_get ws i ≡ Some w →
    move_index (set ws i (altered_by change w)) i (destination change i (length ws - 1)) ≡ changed change ws
changed_at (Map n) i ws w p a e = in_place n i (λ v. record v { mapped = true }) ws w p a e
changed_at (Unmap n) i ws w p a e = in_place n i (λ v. record v { mapped = false }) ws w p a e
changed_at (Move n x y) i ws w p a e = in_place n i (λ v. record v { x = x; y = y }) ws w p a e
changed_at (Resize n width height) i ws w p a e = in_place n i (λ v. record v { width = width; height = height }) ws w p a e
changed_at (Raise n) i ws w p a e = rw (set_same ws i w e) (move_by ws i 0 w e ∙ (λ j. sym (kept_one n i ws w p a e) j ++ sym (rest_one n i ws p a) j))
changed_at (Lower n) i ws w p a e =
    rw (set_same ws i w e) (move_by ws i (length ws - 1) w e ∙ put_last (remove ws i) (length ws - 1) w (length_removed ws i (placed_below n i ws p)) ∙ (λ j. sym (rest_one n i ws p a) j ++ sym (kept_one n i ws w p a e) j))

-- an owner's windows, one after another
pub unmapped_more : (c i j : ℕ) (ws : List Window) (w : Window) (vs ns : List Window) → j ≡ i + 1 → slice_get ws i ≡ Some w → vs ≡ map (unmapped c) (take i ws) ++ drop i ws → ns ≡ set vs i (unmapped c w) → ns ≡ map (unmapped c) (take j ws) ++ drop j ws
unmapped_more c i j ws w vs ns e at before new = new ∙ ap (λ (us : List Window). set us i (unmapped c w)) before ∙ by i ws at ∙ ap (λ (k : ℕ). map (unmapped c) (take k ws) ++ drop k ws) (let s : suc i ≡ j = omega arith in s)
  where
    by : (k : ℕ) (us : List Window) → slice_get us k ≡ Some w → set (map (unmapped c) (take k us) ++ drop k us) k (unmapped c w) ≡ map (unmapped c) (take (suc k) us) ++ drop (suc k) us
    by k [] f = absurd (true≢false (ap (λ o. is_some o) (sym f)))
    by zero (u ∷ us) f = let same : u ≡ w = cc in ap (λ (v : Window). unmapped c v ∷ us) (sym same)
    by (suc k) (u ∷ us) f = ap (λ ts. unmapped c u ∷ ts) (by k us f)

-- the windows are still the same
mapped_absent : (f : Window → Window) → ((w : Window) → (f w).number ≡ w.number) → (n : ℕ) (ws : List Window) → (IsAbsent n ws → IsAbsent n (map f ws)) × (IsAbsent n (map f ws) → IsAbsent n ws)
mapped_absent f same n [] = (λ a. tt, λ a. tt)
mapped_absent f same n (w ∷ ws) =
    let rest = mapped_absent f same n ws in
    (λ a. (ap (λ (k : ℕ). k == n) (same w) ∙ a.0, rest.0 a.1), λ a. (ap (λ (k : ℕ). k == n) (sym (same w)) ∙ a.0, rest.1 a.1))

pub map_numbers : (f : Window → Window) → ((w : Window) → (f w).number ≡ w.number) → (ws : List Window) → SameNumbers ws (map f ws)
map_numbers f same ws n = mapped_absent f same n ws

absent_append : (n : ℕ) (us vs : List Window) → IsAbsent n us → IsAbsent n vs → IsAbsent n (us ++ vs)
absent_append n [] vs a b = b
absent_append n (u ∷ us) vs a b = (a.0, absent_append n us vs a.1 b)

absent_left : (n : ℕ) (us vs : List Window) → IsAbsent n (us ++ vs) → IsAbsent n us
absent_left n [] vs a = tt
absent_left n (u ∷ us) vs a = (a.0, absent_left n us vs a.1)

absent_right : (n : ℕ) (us vs : List Window) → IsAbsent n (us ++ vs) → IsAbsent n vs
absent_right n [] vs a = a
absent_right n (u ∷ us) vs a = absent_right n us vs a.1

absent_filter : (p : Window → Bool) (n : ℕ) (ws : List Window) → IsAbsent n ws → IsAbsent n (filter p ws)
absent_filter p n [] a = tt
absent_filter p n (w ∷ ws) a = by (p w) (absent_filter p n ws a.1)
  where
    by : (b : Bool) → IsAbsent n (filter p ws) → IsAbsent n (cond b (w ∷ filter p ws) (filter p ws))
    by true r = (a.0, r)
    by false r = r

absent_filters : (p : Window → Bool) (n : ℕ) (ws : List Window) → IsAbsent n (filter p ws) → IsAbsent n (filter (λ w. not (p w)) ws) → IsAbsent n ws
absent_filters p n [] a b = tt
absent_filters p n (w ∷ ws) a b = by (p w) a b (λ f g. absent_filters p n ws f g)
  where
    by : (t : Bool) → IsAbsent n (cond t (w ∷ filter p ws) (filter p ws)) → IsAbsent n (cond (not t) (w ∷ filter (λ v. not (p v)) ws) (filter (λ v. not (p v)) ws)) → (IsAbsent n (filter p ws) → IsAbsent n (filter (λ v. not (p v)) ws) → IsAbsent n ws) → IsAbsent n (w ∷ ws)
    by true f g more = (f.0, more f.1 g)
    by false f g more = (g.0, more f g.1)

altered_number : (n : ℕ) (f : Window → Window) → ((w : Window) → (f w).number ≡ w.number) → (w : Window) → (if w.number == n then f w else w).number ≡ w.number
altered_number n f same w = by (w.number == n) refl
  where
    by : (b : Bool) → (w.number == n) ≡ b → (if w.number == n then f w else w).number ≡ w.number
    by true e = rw e (same w)
    by false e = rw e refl

altered_numbers : (n : ℕ) (f : Window → Window) → ((w : Window) → (f w).number ≡ w.number) → (ws : List Window) → SameNumbers ws (altered n f ws)
altered_numbers n f same ws = map_numbers (λ w. if w.number == n then f w else w) (altered_number n f same) ws

pub changed_numbers : (change : Change) (ws : List Window) → SameNumbers ws (changed change ws)
changed_numbers (Map n) ws = altered_numbers n (λ w. record w { mapped = true }) (λ w. refl) ws
changed_numbers (Unmap n) ws = altered_numbers n (λ w. record w { mapped = false }) (λ w. refl) ws
changed_numbers (Move n x y) ws = altered_numbers n (λ w. record w { x = x; y = y }) (λ w. refl) ws
changed_numbers (Resize n width height) ws = altered_numbers n (λ w. record w { width = width; height = height }) (λ w. refl) ws
changed_numbers (Raise n) ws = λ m. (
  λ a. absent_append m (filter (λ w. w.number == n) ws) (filter (λ w. not (w.number == n)) ws) (absent_filter (λ w. w.number == n) m ws a) (absent_filter (λ w. not (w.number == n)) m ws a),
  λ a. absent_filters (λ w. w.number == n) m ws (absent_left m (filter (λ w. w.number == n) ws) (filter (λ w. not (w.number == n)) ws) a) (absent_right m (filter (λ w. w.number == n) ws) (filter (λ w. not (w.number == n)) ws) a),
)
changed_numbers (Lower n) ws = λ m. (
  λ a. absent_append m (filter (λ w. not (w.number == n)) ws) (filter (λ w. w.number == n) ws) (absent_filter (λ w. not (w.number == n)) m ws a) (absent_filter (λ w. w.number == n) m ws a),
  λ a. absent_filters (λ w. w.number == n) m ws (absent_right m (filter (λ w. not (w.number == n)) ws) (filter (λ w. w.number == n) ws) a) (absent_left m (filter (λ w. not (w.number == n)) ws) (filter (λ w. w.number == n) ws) a),
)

pub destination_below : (change : Change) (i n : ℕ) → i < n → destination change i (n - 1) < n
destination_below (Map n) i k b = b
destination_below (Unmap n) i k b = b
destination_below (Move n x y) i k b = b
destination_below (Resize n width height) i k b = b
destination_below (Raise n) i k b = omega arith
destination_below (Lower n) i k b = omega arith

unmapped_number : (c : ℕ) (w : Window) → (unmapped c w).number ≡ w.number
unmapped_number c w = by (w.owner == c) refl
  where
    by : (b : Bool) → (w.owner == c) ≡ b → (if w.owner == c then record w { mapped = false } else w).number ≡ w.number
    by true e = rw e refl
    by false e = rw e refl

pub without_numbers : (c : ℕ) (ws : List Window) → SameNumbers ws (without_owner c ws)
without_numbers c ws = map_numbers (unmapped c) (unmapped_number c) ws

got_mixed : (f : Window → Window) (i : ℕ) (ws : List Window) (w : Window) → slice_get ws i ≡ Some w → slice_get (map f (take i ws) ++ drop i ws) i ≡ Some w
got_mixed f i [] w e = absurd (true≢false (ap (λ o. is_some o) (sym e)))
got_mixed f zero (v ∷ ws) w e = e
got_mixed f (suc i) (v ∷ ws) w e = got_mixed f i ws w e

pub owner_same : (c i : ℕ) (ws : List Window) (w u : Window) (vs : List Window) → slice_get ws i ≡ Some w → vs ≡ map (unmapped c) (take i ws) ++ drop i ws → u ≡ unmapped c w → IfSome (slice_get vs i) (λ v. u.number ≡ v.number)
owner_same c i ws w u vs at before e = rw (before, got_mixed (unmapped c) i ws w at) (ap (λ (v : Window). v.number) e ∙ unmapped_number c w)

-- refusals
pub refused_absent : (change : Change) (ws : List Window) → IsAbsent (named_by change) ws → refusal change ws ≡ Some Refusal.NoWindow
refused_absent change ws a = ap (refused_for change) (window_absent (named_by change) ws a)

pub refused_here : (change : Change) (i : ℕ) (ws : List Window) (w : Window) → IsPlaced (named_by change) i ws → slice_get ws i ≡ Some w → refusal change ws ≡ refused_at change w
refused_here change i ws w p e = ap (refused_for change) (window_at (named_by change) i ws p ∙ e)

pub after_allowed : (change : Change) (ws : List Window) → refusal change ws ≡ None → changed change ws ≡ stack_after change ws
after_allowed change ws e = rw e refl

-- numbers that a change may bring
allowed : (b : Bool) → (if b then None else Some Refusal.OutOfRange) ≡ None → b ≡ true
allowed true e = refl
allowed false e = absurd (true≢false (ap (λ o. is_some o) e))

corners : (x y : ℤ) → (if is_corner x && is_corner y then None else Some Refusal.OutOfRange) ≡ None → IsPlace x × IsPlace y
corners x y e = let p = and_parts (is_corner x) (is_corner y) (allowed (is_corner x && is_corner y) e) in (corner_is x p.0, corner_is y p.1)

sides : (m n : ℕ) → (if is_side m && is_side n then None else Some Refusal.OutOfRange) ≡ None → IsSide m × IsSide n
sides m n e = let p = and_parts (is_side m) (is_side n) (allowed (is_side m && is_side n) e) in (side_is m p.0, side_is n p.1)

-- windows in range stay so
pub without_ranged : (c : ℕ) (ws : List Window) → All WindowInRange ws → All WindowInRange (without_owner c ws)
without_ranged c ws all = All-map WindowInRange (unmapped c) ws (All-weaker WindowInRange (λ w. WindowInRange (unmapped c w)) one ws all)
  where
    one : (w : Window) → WindowInRange w → WindowInRange (unmapped c w)
    one w r = by (w.owner == c)
      where
        by : (b : Bool) → WindowInRange (if b then record w { mapped = false } else w)
        by true = record { numbered = r.numbered; left = r.left; top = r.top; wide = r.wide; high = r.high; owned = r.owned }
        by false = r

altered_ranged : (n : ℕ) (f : Window → Window) (ws : List Window) → ((w : Window) → WindowInRange w → WindowInRange (f w)) → All WindowInRange ws → All WindowInRange (altered n f ws)
altered_ranged n f ws g all = All-map WindowInRange (λ w. if w.number == n then f w else w) ws (All-weaker WindowInRange (λ w. WindowInRange (if w.number == n then f w else w)) one ws all)
  where
    one : (w : Window) → WindowInRange w → WindowInRange (if w.number == n then f w else w)
    one w r = by (w.number == n)
      where
        by : (b : Bool) → WindowInRange (if b then f w else w)
        by true = g w r
        by false = r

pub changed_ranged : (change : Change) (w : Window) (ws : List Window) → refused_at change w ≡ None → All WindowInRange ws → All WindowInRange (changed change ws)
changed_ranged (Map n) v ws e all = altered_ranged n (λ w. record w { mapped = true }) ws (λ w r. record { numbered = r.numbered; left = r.left; top = r.top; wide = r.wide; high = r.high; owned = r.owned }) all
changed_ranged (Unmap n) v ws e all = altered_ranged n (λ w. record w { mapped = false }) ws (λ w r. record { numbered = r.numbered; left = r.left; top = r.top; wide = r.wide; high = r.high; owned = r.owned }) all
changed_ranged (Move n x y) v ws e all =
    let p = corners x y e in
    altered_ranged n (λ w. record w { x = x; y = y }) ws (λ w r. record { numbered = r.numbered; left = p.0; top = p.1; wide = r.wide; high = r.high; owned = r.owned }) all
changed_ranged (Resize n width height) v ws e all =
    let p = sides width height e in
    altered_ranged n (λ w. record w { width = width; height = height }) ws (λ w r. record { numbered = r.numbered; left = r.left; top = r.top; wide = p.0; high = p.1; owned = r.owned }) all
changed_ranged (Raise n) v ws e all = All-append WindowInRange (filter (λ w. w.number == n) ws) (filter (λ w. not (w.number == n)) ws) (All-filter (λ w. w.number == n) WindowInRange ws all) (All-filter (λ w. not (w.number == n)) WindowInRange ws all)
changed_ranged (Lower n) v ws e all = All-append WindowInRange (filter (λ w. not (w.number == n)) ws) (filter (λ w. w.number == n) ws) (All-filter (λ w. not (w.number == n)) WindowInRange ws all) (All-filter (λ w. w.number == n) WindowInRange ws all)

pub after_numbers : (change : Change) (ws : List Window) → SameNumbers ws (stack_after change ws)
after_numbers change ws = by (refusal change ws)
  where
    by : (o : Option Refusal) → SameNumbers ws (unless_refused o ws (changed change ws))
    by None = changed_numbers change ws
    by (Some why) = λ n. (λ a. a, λ a. a)

pub after_ranged : (change : Change) (ws : List Window) → All WindowInRange ws → All WindowInRange (stack_after change ws)
after_ranged change ws all = by (refusal change ws) refl
  where
    seen : (o : Option Window) → refused_for change o ≡ None → All WindowInRange (changed change ws)
    seen None e = absurd (true≢false (ap (λ o. is_some o) e))
    seen (Some w) e = changed_ranged change w ws e all

    by : (o : Option Refusal) → refusal change ws ≡ o → All WindowInRange (unless_refused o ws (changed change ws))
    by None e = seen (window_in ws (named_by change)) e
    by (Some why) e = all

-- the windows that aren't named are as before
others_map : (named : Window → Bool) (g : Window → Window) → ((w : Window) → named (g w) ≡ named w) → ((w : Window) → named w ≡ false → g w ≡ w) → (ws : List Window) → others named ws ≡ others named (map g ws)
others_map named g same kept [] = refl
others_map named g same kept (w ∷ ws) = by (named w) refl (others_map named g same kept ws)
  where
    by : (b : Bool) → named w ≡ b → others named ws ≡ others named (map g ws) → others named (w ∷ ws) ≡ others named (g w ∷ map g ws)
    by true e more = ap (λ b. cond (not b) (w ∷ others named ws) (others named ws)) e ∙ more ∙ sym (ap (λ b. cond (not b) (g w ∷ others named (map g ws)) (others named (map g ws))) (same w ∙ e))
    by false e more = ap (λ b. cond (not b) (w ∷ others named ws) (others named ws)) e ∙ (λ i. sym (kept w e) i ∷ more i) ∙ sym (ap (λ b. cond (not b) (g w ∷ others named (map g ws)) (others named (map g ws))) (same w ∙ e))

others_altered : (n : ℕ) (f : Window → Window) → ((w : Window) → (f w).number ≡ w.number) → (ws : List Window) → others (λ w. w.number == n) ws ≡ others (λ w. w.number == n) (altered n f ws)
others_altered n f same ws = others_map (λ w. w.number == n) (λ w. if w.number == n then f w else w) (λ w. ap (λ (k : ℕ). k == n) (altered_number n f same w)) (λ w e. ap (λ b. if b then f w else w) e) ws

filter_twice : (p : Window → Bool) (ws : List Window) → filter p (filter p ws) ≡ filter p ws
filter_twice p [] = refl
filter_twice p (w ∷ ws) = by (p w) refl (filter_twice p ws)
  where
    by : (b : Bool) → p w ≡ b → filter p (filter p ws) ≡ filter p ws → filter p (cond b (w ∷ filter p ws) (filter p ws)) ≡ cond b (w ∷ filter p ws) (filter p ws)
    by true e more = ap (λ b. cond b (w ∷ filter p (filter p ws)) (filter p (filter p ws))) e ∙ ap (λ (us : List Window). w ∷ us) more
    by false e more = more

filter_not : (p : Window → Bool) (ws : List Window) → filter (λ w. not (p w)) (filter p ws) ≡ []
filter_not p [] = refl
filter_not p (w ∷ ws) = by (p w) refl (filter_not p ws)
  where
    by : (b : Bool) → p w ≡ b → filter (λ v. not (p v)) (filter p ws) ≡ [] → filter (λ v. not (p v)) (cond b (w ∷ filter p ws) (filter p ws)) ≡ []
    by true e more = ap (λ b. cond (not b) (w ∷ filter (λ v. not (p v)) (filter p ws)) (filter (λ v. not (p v)) (filter p ws))) e ∙ more
    by false e more = more

others_raised : (p : Window → Bool) (ws : List Window) → others p ws ≡ others p (filter p ws ++ others p ws)
others_raised p ws = sym (filter-append (λ w. not (p w)) (filter p ws) (others p ws) ∙ (λ i. filter_not p ws i ++ filter_twice (λ w. not (p w)) ws i))

others_lowered : (p : Window → Bool) (ws : List Window) → others p ws ≡ others p (others p ws ++ filter p ws)
others_lowered p ws = sym (filter-append (λ w. not (p w)) (others p ws) (filter p ws) ∙ (λ i. filter_twice (λ w. not (p w)) ws i ++ filter_not p ws i) ∙ none (others p ws))
  where
    none : (us : List Window) → us ++ [] ≡ us
    none [] = refl
    none (u ∷ us) = ap (λ vs. u ∷ vs) (none us)

others_changed : (change : Change) (ws : List Window) → others (λ w. w.number == named_by change) ws ≡ others (λ w. w.number == named_by change) (changed change ws)
others_changed (Map n) ws = others_altered n (λ w. record w { mapped = true }) (λ w. refl) ws
others_changed (Unmap n) ws = others_altered n (λ w. record w { mapped = false }) (λ w. refl) ws
others_changed (Move n x y) ws = others_altered n (λ w. record w { x = x; y = y }) (λ w. refl) ws
others_changed (Resize n width height) ws = others_altered n (λ w. record w { width = width; height = height }) (λ w. refl) ws
others_changed (Raise n) ws = others_raised (λ w. w.number == n) ws
others_changed (Lower n) ws = others_lowered (λ w. w.number == n) ws

pub others_after : (change : Change) (ws : List Window) → others (λ w. w.number == named_by change) ws ≡ others (λ w. w.number == named_by change) (stack_after change ws)
others_after change ws = by (refusal change ws)
  where
    by : (o : Option Refusal) → others (λ w. w.number == named_by change) ws ≡ others (λ w. w.number == named_by change) (unless_refused o ws (changed change ws))
    by None = others_changed change ws
    by (Some why) = refl

pub unmapped_owner : (c : ℕ) (w : Window) → (unmapped c w).owner ≡ w.owner
unmapped_owner c w = by (w.owner == c) refl
  where
    by : (b : Bool) → (w.owner == c) ≡ b → (if w.owner == c then record w { mapped = false } else w).owner ≡ w.owner
    by true e = rw e refl
    by false e = rw e refl

pub others_without : (c : ℕ) (ws : List Window) → others (λ w. w.owner == c) ws ≡ others (λ w. w.owner == c) (without_owner c ws)
others_without c ws = others_map (λ w. w.owner == c) (unmapped c) (λ w. ap (λ (k : ℕ). k == c) (unmapped_owner c w)) (λ w e. ap (λ b. if b then record w { mapped = false } else w) e) ws

-- how many windows are named and mapped: at most one by a change, and by a death none afterwards
none_named : (n : ℕ) (ws : List Window) → IsAbsent n ws → length (named_in (λ w. w.number == n) ws) ≡ 0
none_named n [] a = refl
none_named n (w ∷ ws) a = ap (λ b. length (cond (b && w.mapped) (w ∷ named_in (λ v. v.number == n) ws) (named_in (λ v. v.number == n) ws))) a.0 ∙ none_named n ws a.1

pub one_named : (n : ℕ) (ws : List Window) → AreDistinct ws → length (named_in (λ w. w.number == n) ws) ≤ 1
one_named n [] a = omega arith
one_named n (w ∷ ws) a = by (w.number == n) refl w.mapped (one_named n ws a.1)
  where
    by : (b : Bool) → (w.number == n) ≡ b → (m : Bool) → length (named_in (λ v. v.number == n) ws) ≤ 1 → length (cond (b && m) (w ∷ named_in (λ v. v.number == n) ws) (named_in (λ v. v.number == n) ws)) ≤ 1
    by true e true more = let z = none_named n ws (gone n w ws e a.0) in omega (arith, z)
    by true e false more = more
    by false e m more = more

pub dead_unmapped : (c : ℕ) (ws : List Window) → length (named_in (λ w. w.owner == c) (without_owner c ws)) ≡ 0
dead_unmapped c [] = refl
dead_unmapped c (w ∷ ws) = by (w.owner == c) refl ∙ dead_unmapped c ws
  where
    both : ((unmapped c w).owner == c) ≡ (w.owner == c)
    both = ap (λ (k : ℕ). k == c) (unmapped_owner c w)

    by : (b : Bool) → (w.owner == c) ≡ b → length (cond (((unmapped c w).owner == c) && (unmapped c w).mapped) (unmapped c w ∷ named_in (λ v. v.owner == c) (without_owner c ws)) (named_in (λ v. v.owner == c) (without_owner c ws))) ≡ length (named_in (λ v. v.owner == c) (without_owner c ws))
    by true e =
        let m : (unmapped c w).mapped ≡ false = ap (λ b. (if b then record w { mapped = false } else w).mapped) e in
        ap (λ b. length (cond b (unmapped c w ∷ named_in (λ v. v.owner == c) (without_owner c ws)) (named_in (λ v. v.owner == c) (without_owner c ws)))) ((λ i. (both ∙ e) i && m i))
    by false e = ap (λ b. length (cond (b && (unmapped c w).mapped) (unmapped c w ∷ named_in (λ v. v.owner == c) (without_owner c ws)) (named_in (λ v. v.owner == c) (without_owner c ws)))) (both ∙ e)

-- what is mapped after a death is counted beside what it unmaps
count_both : (p q r : Window → Bool) (g : Window → Window) (ws : List Window) → ((k : ℕ) (w : Window) → slice_get ws k ≡ Some w → p w ≡ true → q (g w) ≡ true) → ((w : Window) → r w ≡ true → q w ≡ true) → ((w : Window) → p w ≡ true → r (g w) ≡ false) →
    length (filter p ws) + length (filter r (map g ws)) ≤ length (filter q (map g ws))
count_both p q r g [] f h e = omega arith
count_both p q r g (w ∷ ws) f h e = by (p w) (q (g w)) (r (g w)) refl refl refl (count_both p q r g ws (λ k v a b. f (suc k) v a b) h e)
  where
    by : (a b c : Bool) → p w ≡ a → q (g w) ≡ b → r (g w) ≡ c → length (filter p ws) + length (filter r (map g ws)) ≤ length (filter q (map g ws)) →
        length (cond a (w ∷ filter p ws) (filter p ws)) + length (cond c (g w ∷ filter r (map g ws)) (filter r (map g ws))) ≤ length (cond b (g w ∷ filter q (map g ws)) (filter q (map g ws)))
    by true b true i j k less = absurd (true≢false (sym k ∙ e w i))
    by true true false i j k less = omega (arith, less)
    by true false false i j k less = absurd (true≢false (sym (f 0 w refl i) ∙ j))
    by false true true i j k less = omega (arith, less)
    by false false true i j k less = absurd (true≢false (sym (h (g w) k) ∙ j))
    by false true false i j k less = omega (arith, less)
    by false false false i j k less = less

dead_reached : (c : ℕ) (ws : List Window) → AreDistinct ws → length (named_in (λ w. w.owner == c) ws) + reached_after (λ w. w.owner == c) ws (without_owner c ws) ≤ reached (λ w. w.owner == c) ws (without_owner c ws)
dead_reached c ws apart = count_both (λ w. (w.owner == c) && w.mapped) (is_reached (λ w. w.owner == c) ws (without_owner c ws)) (λ w. w.mapped && is_reached (λ v. v.owner == c) ws (without_owner c ws) w) (unmapped c) ws each
    (λ w e. (and_parts w.mapped (is_reached (λ v. v.owner == c) ws (without_owner c ws) w) e).1)
    (λ w e. ap (λ b. b && is_reached (λ v. v.owner == c) ws (without_owner c ws) (unmapped c w)) (gone_now w (and_parts (w.owner == c) w.mapped e).0))
  where
    gone_now : (w : Window) → (w.owner == c) ≡ true → (unmapped c w).mapped ≡ false
    gone_now w e = ap (λ b. (if b then record w { mapped = false } else w).mapped) e

    or_left : (a b : Bool) → a ≡ true → (a || b) ≡ true
    or_left a b e = ap (λ t. t || b) e

    each : (k : ℕ) (w : Window) → slice_get ws k ≡ Some w → ((w.owner == c) && w.mapped) ≡ true → is_reached (λ v. v.owner == c) ws (without_owner c ws) (unmapped c w) ≡ true
    each k w e h =
        let p = and_parts (w.owner == c) w.mapped h in
        let found : window_in ws (unmapped c w).number ≡ Some w = ap (window_in ws) (unmapped_number c w) ∙ window_at w.number k ws (placed_here ws k w apart e) ∙ e in
        let was : is_mapped (window_in ws (unmapped c w).number) ≡ true = ap is_mapped found ∙ p.1 in
        let owned : ((unmapped c w).owner == c) ≡ true = ap (λ (j : ℕ). j == c) (unmapped_owner c w) ∙ p.0 in
        (λ i. or_left (is_mapped (window_in ws (unmapped c w).number)) (unmapped c w).mapped was i && or_left ((unmapped c w).owner == c) (meets_window (named_in (λ v. v.owner == c) ws) (window_rect (unmapped c w)) || meets_window (named_in (λ v. v.owner == c) (without_owner c ws)) (window_rect (unmapped c w))) owned i)

after_reached : (named : Window → Bool) (old new : List Window) → reached_after named old new ≤ reached named old new
after_reached named old new = count_weaker (λ w. w.mapped && is_reached named old new w) (is_reached named old new) (λ w e. (and_parts w.mapped (is_reached named old new w) e).1) new

-- what a change costs, and what a death
pub change_cost : (n : ℕ) (old new : List Window) (start after : ℕ) → AreDistinct old → AreDistinct new → after ≤ start + (mending_cost (λ w. w.number == n) old new + moving_cost) → after ≤ start + (8 * reached (λ w. w.number == n) old new + 16)
change_cost n old new start after a b e = let f = one_named n old a in let g = one_named n new b in let h = after_reached (λ w. w.number == n) old new in omega (arith, e, f, g, h)

pub death_cost : (c : ℕ) (old : List Window) (start after : ℕ) → AreDistinct old → after ≤ start + (mending_cost (λ w. w.owner == c) old (without_owner c old) + moving_cost) → after ≤ start + (8 * reached (λ w. w.owner == c) old (without_owner c old) + 16)
death_cost c old start after a e = let f = dead_reached c old a in let g = dead_unmapped c old in omega (arith, e, f, g)
