-- Paints, region by region.
use Rattle.std.proofs.Common.{◌≡◌, ℕ, zero, suc, ◌<◌, ◌≤◌, ◌+◌, ◌-◌, length, get_or, take, map, List, [], ◌∷◌, ◌++◌, Bool, true, false, arith, refl, sym, ◌∙◌, ap, subst, Option, None, Some, slice_get, is_some, is_none, inl, inr}
use Rattle.std.specs.Prelude.{ℤ, pos, negsuc, ◌≤ℤ◌, ◌<ℤ◌, ◌+ℤ◌, ◌-ℤ◌, ◌&&◌, ◌||◌, not, nat_lt, nat_le, int_lt, int_le, ◌==◌, if◌then◌else◌, unsigned_abs, All, AllPairs}
use Rattle.std.specs.List.{AllByRecursion}
use Rattle.std.proofs.lemmas.Bool.{true≢false, cases_lt, and_parts, eq-eqb, ltb-true}
use Rattle.std.proofs.lemmas.Int.{ints}
use Rattle.std.proofs.lemmas.List.{append_assoc, map-append, get_or_append_left, get_or-append_right, length-append, length-map, get_or-map}
use Rattle.dri_base.specs.declared.shape.ClipRect.{ClipRect}
use Rattle.std.proofs.lemmas.List.Elements.{All-map}
use Rattle.std.proofs.Math.Bool.{and_comm}
use Rattle.dri_base.specs.declared.colour.Rgb.{Rgb}
use Rattle.dri_base.specs.declared.scene.Window.{Window}
use Rattle.dri_base.specs.declared.shape.Rect.{Rect}
use Rattle.dri_rect.specs.Pixels.{IsApart, IsProper, inside, has_pixel}
use Rattle.dri_model.specs.Stacks.{ground_colour, is_window, top, window_has}
use Rattle.dri_clips.specs.declared.touched.Paint.{Paint}
use Rattle.dri_clips.specs.Gains.{AreOnScreen, IsRectOnScreen, clip_rect, paint_of}
use Rattle.dri_clips.specs.Layouts.{AreDistinct, IsAbsent, screen_rect}
use Rattle.dri_base.specs.Planes.{in_rect}
use Rattle.dri_base.specs.Rectangles.{AreApart, in_rects}
use Rattle.dri_clips.specs.Paints.{IsOnScreen, StaysOnScreen, paint_at}
use Rattle.dri_clips.proofs.Placing.{eq_sym, take_one}
use Rattle.dri_clips.proofs.Walking.{never_top, top_pixel, on_screen}

-- numbers that aren't negative
le_abs : (z : ℤ) (n : ℕ) → pos 0 ≤ℤ z → nat_le (unsigned_abs z) n ≡ int_le z (pos n)
le_abs (pos a) n h = refl
le_abs (negsuc a) n h = absurd (omega (arith, ints, h))

lt_abs : (z : ℤ) (n : ℕ) → pos 0 ≤ℤ z → nat_lt n (unsigned_abs z) ≡ int_lt (pos n) z
lt_abs (pos a) n h = refl
lt_abs (negsuc a) n h = absurd (omega (arith, ints, h))

abs_lt : (a b : ℤ) → pos 0 ≤ℤ a → a <ℤ b → unsigned_abs a < unsigned_abs b
abs_lt (pos a) (pos b) h l = omega (arith, ints, l)
abs_lt (pos a) (negsuc b) h l = absurd (omega (arith, ints, l))
abs_lt (negsuc a) b h l = absurd (omega (arith, ints, h))

abs_le : (a : ℤ) (n : ℕ) → pos 0 ≤ℤ a → a ≤ℤ pos n → unsigned_abs a ≤ n
abs_le (pos a) n h l = omega (arith, ints, l)
abs_le (negsuc a) n h l = absurd (omega (arith, ints, h))

pub clip_has : (width height : ℕ) (r : Rect) → IsRectOnScreen width height r → (x y : ℕ) → in_rect (clip_rect r) x y ≡ has_pixel r (pos x) (pos y)
clip_has width height r o x y =
    let right : pos 0 ≤ℤ r.x2 = omega (arith, ints, o.left, o.start) in
    let low : pos 0 ≤ℤ r.y2 = omega (arith, ints, o.top, o.head) in
    rw (le_abs r.x1 x o.left, lt_abs r.x2 x right, le_abs r.y1 y o.top, lt_abs r.y2 y low) (and_comm (int_le r.x1 (pos x) && int_lt (pos x) r.x2) (int_le r.y1 (pos y) && int_lt (pos y) r.y2))

-- rectangles of a region on the screen
member : (rs : List Rect) (i : ℕ) (r : Rect) (x y : ℤ) → slice_get rs i ≡ Some r → has_pixel r x y ≡ true → inside rs x y ≡ true
member [] i r x y e h = absurd (true≢false (ap (λ o. is_some o) (sym e)))
member (s ∷ rs) zero r x y e h = let same : s ≡ r = cc in rw same (rw h refl)
member (s ∷ rs) (suc i) r x y e h = by (has_pixel s x y) (member rs i r x y e h)
  where
    by : (b : Bool) → inside rs x y ≡ true → (b || inside rs x y) ≡ true
    by true f = refl
    by false f = f

proper_at : (rs : List Rect) (i : ℕ) (r : Rect) → slice_get rs i ≡ Some r → AllByRecursion IsProper rs → IsProper r
proper_at [] i r e a = absurd (true≢false (ap (λ o. is_some o) (sym e)))
proper_at (s ∷ rs) zero r e a = let same : s ≡ r = cc in subst IsProper same a.0
proper_at (s ∷ rs) (suc i) r e a = proper_at rs i r e a.1

first_corner : (r : Rect) → IsProper r → has_pixel r r.x1 r.y1 ≡ true
first_corner r p = grind (arith, ints, p.across.lt, p.down.lt)

last_corner : (r : Rect) → IsProper r → has_pixel r (r.x2 -ℤ pos 1) (r.y2 -ℤ pos 1) ≡ true
last_corner r p = grind (arith, ints, p.across.lt, p.down.lt)

pub record IsPlace (width height : ℕ) (x y : ℤ) : Type 0 where
  pub left : pos 0 ≤ℤ x
  pub right : x <ℤ pos width
  pub top : pos 0 ≤ℤ y
  pub bottom : y <ℤ pos height

pub place : (width height : ℕ) (x y : ℤ) → has_pixel (screen_rect width height) x y ≡ true → IsPlace width height x y
place width height x y e = record { left = grind (arith, ints); right = grind (arith, ints); top = grind (arith, ints); bottom = grind (arith, ints) }

pub rect_on_screen : (width height : ℕ) (rs : List Rect) (i : ℕ) (r : Rect) → slice_get rs i ≡ Some r → AllByRecursion IsProper rs → AreOnScreen width height rs → IsRectOnScreen width height r
rect_on_screen width height rs i r e a on =
    let p = proper_at rs i r e a in
    let f = place width height r.x1 r.y1 (on r.x1 r.y1 (member rs i r r.x1 r.y1 e (first_corner r p))) in
    let l = place width height (r.x2 -ℤ pos 1) (r.y2 -ℤ pos 1) (on (r.x2 -ℤ pos 1) (r.y2 -ℤ pos 1) (member rs i r (r.x2 -ℤ pos 1) (r.y2 -ℤ pos 1) e (last_corner r p))) in
    record {
      left = f.left;
      top = f.top;
      start = omega (arith, ints, p.across);
      head = omega (arith, ints, p.down);
      right = omega (arith, ints, l.right);
      bottom = omega (arith, ints, l.bottom);
    }

-- paints behind paints
abbrev pub or_else : Option Rgb → Option Rgb → Option Rgb
or_else None b = b
or_else (Some a) b = Some a

pub paint_append : (ps qs : List Paint) (x y : ℕ) → paint_at (ps ++ qs) x y ≡ or_else (paint_at ps x y) (paint_at qs x y)
paint_append [] qs x y = refl
paint_append (p ∷ ps) qs x y = by (in_rect p.rect x y) (paint_append ps qs x y)
  where
    by : (b : Bool) → paint_at (ps ++ qs) x y ≡ or_else (paint_at ps x y) (paint_at qs x y) → (if b then Some p.colour else paint_at (ps ++ qs) x y) ≡ or_else (if b then Some p.colour else paint_at ps x y) (paint_at qs x y)
    by true e = refl
    by false e = e

get_some : {X : Type 0} (xs : List X) (k : ℕ) (d : X) → k < length xs → slice_get xs k ≡ Some (get_or xs k d)
get_some [] k d b = absurd (omega arith)
get_some (x ∷ xs) zero d b = refl
get_some (x ∷ xs) (suc k) d b = get_some xs k d (omega arith)

pub rects_on : (width height : ℕ) (rs : List Rect) → AllByRecursion IsProper rs → AreOnScreen width height rs → (k : ℕ) (d : Rect) → k < length rs → IsRectOnScreen width height (get_or rs k d)
rects_on width height rs a on k d b = rect_on_screen width height rs k (get_or rs k d) (get_some rs k d b) a on

pub paint_region_at : (width height : ℕ) (colour : Rgb) (rs : List Rect) → ((k : ℕ) (d : Rect) → k < length rs → IsRectOnScreen width height (get_or rs k d)) → (x y : ℕ) → paint_at (map (paint_of colour) rs) x y ≡ (if inside rs (pos x) (pos y) then Some colour else None)
paint_region_at width height colour [] on x y = refl
paint_region_at width height colour (r ∷ rs) on x y = rw (clip_has width height r (on 0 r (omega arith)) x y) (by (has_pixel r (pos x) (pos y)) (paint_region_at width height colour rs (λ k d b. on (suc k) d (omega arith)) x y))
  where
    by : (t : Bool) → paint_at (map (paint_of colour) rs) x y ≡ (if inside rs (pos x) (pos y) then Some colour else None) → (if t then Some colour else paint_at (map (paint_of colour) rs) x y) ≡ (if t || inside rs (pos x) (pos y) then Some colour else None)
    by true e = refl
    by false e = e

-- pairs of two lists
pub all_pairs_append : {X : Type 0} (R : X → X → Type 0) (xs ys : List X) → AllPairs R xs → AllPairs R ys → ((i j : ℕ) (d : X) → i < length xs → j < length ys → R (get_or xs i d) (get_or ys j d)) → AllPairs R (xs ++ ys)
all_pairs_append {X} R xs ys a b f i j d up below = elim (cases_lt j (length xs)) [
  | inl low ↦
      let e = get_or_append_left xs ys d i (omega arith) in
      let g = get_or_append_left xs ys d j low in
      rw (e, g) (a i j d up low)
  | inr high ↦
      let room = length-append xs ys in
      let g = get_or-append_right xs ys (length xs) j d refl high in
      elim (cases_lt i (length xs)) [
        | inl low ↦
            let e = get_or_append_left xs ys d i low in
            rw (e, g) (f i (j - length xs) d low (omega arith))
        | inr high' ↦
            let e = get_or-append_right xs ys (length xs) i d refl high' in
            rw (e, g) (b (i - length xs) (j - length xs) d (omega arith) (omega arith))
      ]
]

pub painted_at : (ps : List Paint) (i : ℕ) (d : Paint) (x y : ℕ) → i < length ps → in_rect (get_or ps i d).rect x y ≡ true → is_some (paint_at ps x y) ≡ true
painted_at [] i d x y b h = absurd (omega arith)
painted_at (p ∷ ps) zero d x y b h = rw h refl
painted_at (p ∷ ps) (suc i) d x y b h = by (in_rect p.rect x y) (painted_at ps i d x y (omega arith) h)
  where
    by : (t : Bool) → is_some (paint_at ps x y) ≡ true → is_some (if t then Some p.colour else paint_at ps x y) ≡ true
    by true e = refl
    by false e = e

-- the window at a place is on top just where it has_place a pixel that no window above it has_place
pub top_at_place : (ws : List Window) (k : ℕ) (w : Window) → AreDistinct ws → slice_get ws k ≡ Some w → (x y : ℕ) → is_window w.number (top ws x y) ≡ (is_none (top (take k ws) x y) && (w.mapped && window_has w x y))
top_at_place [] k w a e x y = absurd (true≢false (ap (λ o. is_some o) (sym e)))
top_at_place (v ∷ ws) zero w a e x y = let same : v ≡ w = cc in subst (λ (u : Window). is_window u.number (top (v ∷ ws) x y) ≡ (u.mapped && window_has u x y)) same (by (v.mapped && window_has v x y) (ap (is_window v.number) (sym (top_pixel ws x y)) ∙ never_top v.number ws a.0 (pos x) (pos y)))
  where
    by : (t : Bool) → is_window v.number (top ws x y) ≡ false → is_window v.number (if t then Some v else top ws x y) ≡ t
    by true f = eq-eqb v.number v.number refl
    by false f = f
top_at_place (v ∷ ws) (suc k) w a e x y = by (v.mapped && window_has v x y) (top_at_place ws k w a.1 e x y)
  where
    by : (t : Bool) → is_window w.number (top ws x y) ≡ (is_none (top (take k ws) x y) && (w.mapped && window_has w x y)) →
        is_window w.number (if t then Some v else top ws x y) ≡ (is_none (if t then Some v else top (take k ws) x y) && (w.mapped && window_has w x y))
    by true f = eq_sym v.number w.number ∙ differs ws k a.0 e
      where
        differs : (us : List Window) (i : ℕ) → IsAbsent v.number us → slice_get us i ≡ Some w → (w.number == v.number) ≡ false
        differs [] i b g = absurd (true≢false (ap (λ o. is_some o) (sym g)))
        differs (u ∷ us) zero b g = let same : u ≡ w = cc in subst (λ (z : Window). (z.number == v.number) ≡ false) same b.0
        differs (u ∷ us) (suc i) b g = differs us i b.1 g
    by false f = f

-- one window more from the top
pub top_more : (ws : List Window) (k : ℕ) (w : Window) → slice_get ws k ≡ Some w → (x y : ℕ) → top (take (suc k) ws) x y ≡ (if is_some (top (take k ws) x y) then top (take k ws) x y else (if w.mapped && window_has w x y then Some w else None))
top_more [] k w e x y = absurd (true≢false (ap (λ o. is_some o) (sym e)))
top_more (v ∷ ws) zero w e x y = let same : v ≡ w = cc in ap (λ (u : Window). if u.mapped && window_has u x y then Some u else None) same
top_more (v ∷ ws) (suc k) w e x y = by (v.mapped && window_has v x y) (top_more ws k w e x y)
  where
    by : (t : Bool) → top (take (suc k) ws) x y ≡ (if is_some (top (take k ws) x y) then top (take k ws) x y else (if w.mapped && window_has w x y then Some w else None)) →
        (if t then Some v else top (take (suc k) ws) x y) ≡ (if is_some (if t then Some v else top (take k ws) x y) then (if t then Some v else top (take k ws) x y) else (if w.mapped && window_has w x y then Some w else None))
    by true f = refl
    by false f = f

pub top_here : (ws : List Window) (k : ℕ) (w : Window) → slice_get ws k ≡ Some w → (x y : ℕ) → is_none (top (take k ws) x y) ≡ true → (w.mapped && window_has w x y) ≡ true → top ws x y ≡ Some w
top_here [] k w e x y n c = absurd (true≢false (ap (λ o. is_some o) (sym e)))
top_here (v ∷ ws) zero w e x y n c = let same : v ≡ w = cc in let d : (v.mapped && window_has v x y) ≡ true = subst (λ (u : Window). (u.mapped && window_has u x y) ≡ true) (sym same) c in rw d (ap (λ (u : Window). Some u) same)
top_here (v ∷ ws) (suc k) w e x y n c = by (v.mapped && window_has v x y) n (λ m. top_here ws k w e x y m c)
  where
    by : (t : Bool) → is_none (if t then Some v else top (take k ws) x y) ≡ true → (is_none (top (take k ws) x y) ≡ true → top ws x y ≡ Some w) → (if t then Some v else top ws x y) ≡ Some w
    by true m f = absurd (true≢false (sym m))
    by false m f = f m

-- one pixel's paint, after one window more: nothing where what was there is kept
abbrev pub wanted : Rgb → Bool → Option Window → Option Rgb
wanted root kept t = if kept then None else Some (ground_colour root t)

abbrev pub partly : Rgb → Bool → Option Window → Option Window → Option Rgb
partly root kept t u = if is_none t || is_some u then wanted root kept t else None

else_none : (a : Option Rgb) → or_else a None ≡ a
else_none None = refl
else_none (Some a) = refl

pub step : (root : Rgb) (kept : Bool) (t u : Option Window) (w : Window) (cover : Bool) → is_window w.number t ≡ (is_none u && cover) → (is_none u ≡ true → cover ≡ true → t ≡ Some w) →
    or_else (partly root kept t u) (if is_window w.number t && not kept then Some w.background else None) ≡ partly root kept t (if is_some u then u else (if cover then Some w else None))
step root kept t (Some v) w cover e f = rw e (else_none (partly root kept t (Some v)))
step root kept t None w false e f = rw e (else_none (partly root kept t None))
step root kept t None w true e f = rw (f refl refl, eq-eqb w.number w.number refl) (flip kept)
  where
    flip : (b : Bool) → (if not b then Some w.background else None) ≡ (if b then None else Some w.background)
    flip true = refl
    flip false = refl

-- where window w is painted, nothing was painted yet
pub nothing_yet : (root : Rgb) (kept : Bool) (t u : Option Window) (w : Window) (cover : Bool) → is_window w.number t ≡ (is_none u && cover) → is_window w.number t ≡ true → partly root kept t u ≡ None
nothing_yet root kept None u w cover e h = absurd (true≢false (sym h))
nothing_yet root kept (Some v) None w cover e h = refl
nothing_yet root kept (Some v) (Some z) w cover e h = absurd (true≢false (sym h ∙ e))

-- the rectangles of a region, as the card takes them
pub card_rect : (width height : ℕ) (rs : List Rect) → AllByRecursion IsProper rs → AreOnScreen width height rs → (k : ℕ) (d : Rect) → k < length rs → IsOnScreen width height (clip_rect (get_or rs k d))
card_rect width height rs proper on k d b =
    let o = rects_on width height rs proper on k d b in
    let p = proper_at rs k (get_or rs k d) (get_some rs k d b) proper in
    let right : pos 0 ≤ℤ (get_or rs k d).x2 = omega (arith, ints, o.left, o.start) in
    let low : pos 0 ≤ℤ (get_or rs k d).y2 = omega (arith, ints, o.top, o.head) in
    record {
      across = abs_lt (get_or rs k d).x1 (get_or rs k d).x2 o.left p.across;
      down = abs_lt (get_or rs k d).y1 (get_or rs k d).y2 o.top p.down;
      right = abs_le (get_or rs k d).x2 width right o.right;
      bottom = abs_le (get_or rs k d).y2 height low o.bottom;
    }

-- and once their pixels are moved, which then lie on the screen too
abs_same : (z : ℤ) → pos 0 ≤ℤ z → pos (unsigned_abs z) ≡ z
abs_same (pos a) h = refl
abs_same (negsuc a) h = absurd (omega (arith, ints, h))

pub card_rect_stays : (width height : ℕ) (dx dy : ℤ) (rs : List Rect) → AllByRecursion IsProper rs → AreOnScreen width height rs → ((x y : ℤ) → inside rs x y ≡ true → has_pixel (screen_rect width height) (x +ℤ dx) (y +ℤ dy) ≡ true) →
    (k : ℕ) (d : Rect) → k < length rs → StaysOnScreen dx dy width height (clip_rect (get_or rs k d))
card_rect_stays width height dx dy rs proper on stays k d b =
    let o = rects_on width height rs proper on k d b in
    let p = proper_at rs k (get_or rs k d) (get_some rs k d b) proper in
    let first = place width height ((get_or rs k d).x1 +ℤ dx) ((get_or rs k d).y1 +ℤ dy) (stays _ _ (member rs k (get_or rs k d) _ _ (get_some rs k d b) (first_corner (get_or rs k d) p))) in
    let last = place width height ((get_or rs k d).x2 -ℤ pos 1 +ℤ dx) ((get_or rs k d).y2 -ℤ pos 1 +ℤ dy) (stays _ _ (member rs k (get_or rs k d) _ _ (get_some rs k d b) (last_corner (get_or rs k d) p))) in
    let right : pos 0 ≤ℤ (get_or rs k d).x2 = omega (arith, ints, o.left, o.start) in
    let low : pos 0 ≤ℤ (get_or rs k d).y2 = omega (arith, ints, o.top, o.head) in
    record {
      before = card_rect width height rs proper on k d b;
      left = rw (abs_same (get_or rs k d).x1 o.left) first.left;
      right = rw (abs_same (get_or rs k d).x2 right) (omega (arith, ints, last.right));
      top = rw (abs_same (get_or rs k d).y1 o.top) first.top;
      bottom = rw (abs_same (get_or rs k d).y2 low) (omega (arith, ints, last.bottom));
    }

pub card_rects_have : (width height : ℕ) (rs : List Rect) → ((k : ℕ) (d : Rect) → k < length rs → IsRectOnScreen width height (get_or rs k d)) → (x y : ℕ) → in_rects (map clip_rect rs) x y ≡ inside rs (pos x) (pos y)
card_rects_have width height [] on x y = refl
card_rects_have width height (r ∷ rs) on x y = rw (clip_has width height r (on 0 r (omega arith)) x y, card_rects_have width height rs (λ k d b. on (suc k) d (omega arith)) x y) refl

pub card_rects_apart : (width height : ℕ) (rs : List Rect) → AllPairs IsApart rs → AllByRecursion IsProper rs → AreOnScreen width height rs → (i j : ℕ) (d : Rect) → i < j → j < length rs → AreApart (clip_rect (get_or rs i d)) (clip_rect (get_or rs j d))
card_rects_apart width height rs apart proper on i j d up below x y =
    rw (clip_has width height (get_or rs i d) (rects_on width height rs proper on i d (omega arith)) x y, clip_has width height (get_or rs j d) (rects_on width height rs proper on j d below) x y)
    (apart i j d up below (pos x) (pos y))

-- the paints of a region
pub paint_region_each : (width height : ℕ) (colour : Rgb) (rs : List Rect) → AllByRecursion IsProper rs → AreOnScreen width height rs → All (λ p. IsOnScreen width height p.rect) (map (paint_of colour) rs)
paint_region_each width height colour rs proper on = All-map (λ p. IsOnScreen width height p.rect) (paint_of colour) rs (λ k d b. card_rect width height rs proper on k d b)

pub no_rect : Rect
no_rect = record { x1 = pos 0; y1 = pos 0; x2 = pos 0; y2 = pos 0 }

mapped_get : (colour : Rgb) (rs : List Rect) (i : ℕ) (d : Paint) → i < length rs → get_or (map (paint_of colour) rs) i d ≡ paint_of colour (get_or rs i no_rect)
mapped_get colour rs i d b = get_or-map (paint_of colour) rs i no_rect d b

pub paint_region_apart : (width height : ℕ) (colour : Rgb) (rs : List Rect) → AllPairs IsApart rs → AllByRecursion IsProper rs → AreOnScreen width height rs → AllPairs (λ p q. AreApart p.rect q.rect) (map (paint_of colour) rs)
paint_region_apart width height colour rs apart proper on i j d up below =
    let room = length-map rs (paint_of colour) in
    rw (mapped_get colour rs i d (omega arith), mapped_get colour rs j d (omega arith)) (card_rects_apart width height rs apart proper on i j no_rect up (omega arith))

-- a painted pixel is on the screen and in the region
pub region_painted : (width height : ℕ) (colour : Rgb) (rs : List Rect) → AllByRecursion IsProper rs → AreOnScreen width height rs → (m : ℕ) (d : Paint) (x y : ℕ) → m < length (map (paint_of colour) rs) → in_rect (get_or (map (paint_of colour) rs) m d).rect x y ≡ true →
    (x < width) × (y < height) × (inside rs (pos x) (pos y) ≡ true)
region_painted width height colour rs proper on m d x y b h =
    let room = length-map rs (paint_of colour) in
    let low : m < length rs = omega arith in
    let g : in_rect (clip_rect (get_or rs m no_rect)) x y ≡ true = subst (λ (p : Paint). in_rect p.rect x y ≡ true) (mapped_get colour rs m d low) h in
    let f = sym (clip_has width height (get_or rs m no_rect) (rects_on width height rs proper on m no_rect low) x y) ∙ g in
    let i = member rs m (get_or rs m no_rect) (pos x) (pos y) (get_some rs m no_rect low) f in
    let p = and_parts (nat_lt x width) (nat_lt y height) (sym (on_screen width height x y) ∙ on (pos x) (pos y) i) in
    (ltb-true x width p.0, ltb-true y height p.1, i)

pub paint_more : (colour : Rgb) (rs : List Rect) (i j : ℕ) (r : Rect) (q : ClipRect) (first ps ns : List Paint) → j ≡ i + 1 → slice_get rs i ≡ Some r → q ≡ clip_rect r → ps ≡ first ++ map (paint_of colour) (take i rs) → ns ≡ ps ++ (record { rect = q; colour = colour }) ∷ [] →
    ns ≡ first ++ map (paint_of colour) (take j rs)
paint_more colour rs i j r q first ps ns e at is before after =
    after ∙ (λ k. before k ++ (record { rect = is k; colour = colour }) ∷ []) ∙ append_assoc first (map (paint_of colour) (take i rs)) (paint_of colour r ∷ [])
    ∙ ap (λ (ms : List Paint). first ++ ms) (sym (map-append (paint_of colour) (take i rs) (r ∷ [])) ∙ ap (map (paint_of colour)) (sym (take_one rs i j r e at)))

pub card_more : (rs : List Rect) (i j : ℕ) (r : Rect) (q : ClipRect) (qs ns : List ClipRect) → j ≡ i + 1 → slice_get rs i ≡ Some r → q ≡ clip_rect r → qs ≡ map clip_rect (take i rs) → ns ≡ qs ++ q ∷ [] → ns ≡ map clip_rect (take j rs)
card_more rs i j r q qs ns e at is before after = after ∙ (λ k. before k ++ is k ∷ []) ∙ sym (map-append clip_rect (take i rs) (r ∷ [])) ∙ ap (map clip_rect) (sym (take_one rs i j r e at))
