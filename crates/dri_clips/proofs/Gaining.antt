-- The regions that a new stack paints.
use Rattle.std.proofs.Common.{◌≡◌, ℕ, suc, ◌<◌, ◌≤◌, ◌+◌, length, get_or, take, map, List, [], ◌∷◌, ◌++◌, Bool, true, false, arith, refl, sym, ◌∙◌, ap, subst, Option, None, Some, slice_get, is_some, is_none}
use Rattle.std.specs.Prelude.{ℤ, pos, negsuc, ◌-ℤ◌, ◌≤ℤ◌, ◌<ℤ◌, ◌&&◌, ◌||◌, ◌==◌, not, nat_lt, if◌then◌else◌, AllPairs, IfSome}
use Rattle.std.specs.Ordering.{int_eq}
use Rattle.std.specs.List.{AllByRecursion}
use Rattle.std.proofs.lemmas.Bool.{true≢false, and_parts, eq-eqb, eqb-true, lt-ltb, ne_eqb}
use Rattle.std.proofs.lemmas.Bool.Decides.{Decides-int_eq}
use Rattle.std.proofs.lemmas.Int.{ints}
use Rattle.std.proofs.lemmas.List.{take_all}
use Rattle.std.proofs.lemmas.List.Elements.{All-append}
use Rattle.dri_base.specs.declared.colour.Rgb.{Rgb}
use Rattle.dri_base.specs.declared.scene.Window.{Window}
use Rattle.dri_base.specs.declared.shape.Rect.{Rect}
use Rattle.dri_rect.specs.Pixels.{IsApart, IsProper, inside, has_pixel}
use Rattle.dri_model.specs.Stacks.{carried_from, clips, is_displaced, is_moved, is_window, origin, pixel_in, same_origin, same_top, shift, top, was_at, window_has}
use Rattle.dri_model.proofs.Moves.{not_displaced}
use Rattle.dri_clips.specs.declared.touched.Paint.{Paint}
use Rattle.dri_clips.specs.Boards.{shows}
use Rattle.dri_clips.specs.Gains.{AreOnScreen, ArePartlyPaints, IsGain, paint_of, stayed}
use Rattle.dri_clips.specs.Mends.{Stands}
use Rattle.dri_clips.specs.Motions.{IsMotion, moved_in, repainted_of}
use Rattle.dri_clips.specs.declared.moving.Motion.{Motion}
use Rattle.dri_clips.specs.Layouts.{AreDistinct, screen_rect, top_at}
use Rattle.dri_base.specs.Planes.{in_rect}
use Rattle.dri_base.specs.Rectangles.{AreApart}
use Rattle.dri_clips.specs.Paints.{ArePaints, IsOnScreen, paint_at}
use Rattle.dri_clips.proofs.Walking.{on_screen, shown, top_pixel}
use Rattle.dri_clips.proofs.Painting.{all_pairs_append, nothing_yet, or_else, paint_append, paint_region_at, paint_region_each, paint_region_apart, painted_at, partly, place, rects_on, region_painted, step, top_at_place, top_here, top_more, wanted}

nowhere : (z a b : ℤ) → a ≡ b → z -ℤ (a -ℤ b) ≡ z
nowhere z a b e = omega (arith, ints)

-- what a window gained
pub gain_kept : (width height : ℕ) (old new : List Window) (moved : Option ℕ) (n : ℕ) → Stands width height old new n → IsGain width height old new moved n []
gain_kept width height old new moved n same x y = by (shows width height old n x y) ∙ (λ i. sym (same.clips x y) i && not (stayed_there i))
  where
    by : (b : Bool) → false ≡ (b && not b)
    by true = refl
    by false = refl

    stayed_there : shows width height old n x y ≡ stayed width height old new moved n x y
    stayed_there = by_moved (is_moved n moved)
      where
        by_moved : (b : Bool) → shows width height old n x y ≡ (if b then shows width height old n (x -ℤ (shift old new n).0) (y -ℤ (shift old new n).1) else shows width height old n x y)
        by_moved true = rw (nowhere x (origin new n).0 (origin old n).0 (ap (λ o. o.0) same.unmoved), nowhere y (origin new n).1 (origin old n).1 (ap (λ o. o.1) same.unmoved)) refl
        by_moved false = refl

pub window_gain : (width height : ℕ) (old new : List Window) (motion : Option Motion) (n : ℕ) (gained : List Rect) → IfSome motion (IsMotion width height old new) → ((x y : ℤ) → inside gained x y ≡ (shows width height new n x y && not (shows width height old n x y))) →
    IsGain width height old new (moved_in motion) n (repainted_of motion n gained)
window_gain width height old new None n gained is same x y = same x y
window_gain width height old new (Some m) n gained is same x y = by_number (m.window == n) refl x y
  where
    by_number : (b : Bool) → (m.window == n) ≡ b → IsGain width height old new (Some m.window) n (if b then m.fresh else gained)
    by_number true e = subst (λ (k : ℕ). IsGain width height old new (Some m.window) k m.fresh) (eqb-true m.window n e) is.fresh
    by_number false e = λ x y. rw e (same x y)

-- places of the screen
pub larger : (width height : ℕ) (rs : List Rect) → width ≤ 1024 → height ≤ 1024 → AreOnScreen width height rs → AreOnScreen 1024 1024 rs
larger width height rs a b on x y h = let p = place width height x y (on x y h) in back x y p.left (omega (arith, ints, p.right)) p.top (omega (arith, ints, p.bottom))
  where
    back : (u v : ℤ) → pos 0 ≤ℤ u → u <ℤ pos 1024 → pos 0 ≤ℤ v → v <ℤ pos 1024 → has_pixel (screen_rect 1024 1024) u v ≡ true
    back u v e f g k = grind (arith, ints)

pub bared_on : (width height : ℕ) (new : List Window) (free was rs : List Rect) → ((x y : ℤ) → inside free x y ≡ (has_pixel (screen_rect width height) x y && is_none (top_at new x y))) → ((x y : ℤ) → inside rs x y ≡ (inside free x y && not (inside was x y))) → AreOnScreen width height rs
bared_on width height new free was rs f g x y h =
    let p = and_parts (inside free x y) (not (inside was x y)) (sym (g x y) ∙ h) in
    let q = and_parts (has_pixel (screen_rect width height) x y) (is_none (top_at new x y)) (sym (f x y) ∙ p.0) in
    q.0

pub gain_on : (width height : ℕ) (old new : List Window) (moved : Option ℕ) (n : ℕ) (rs : List Rect) → IsGain width height old new moved n rs → AreOnScreen width height rs
gain_on width height old new moved n rs gain x y h =
    let p = and_parts (shows width height new n x y) (not (stayed width height old new moved n x y)) (sym (gain x y) ∙ h) in
    let q = and_parts (has_pixel (screen_rect width height) x y) (is_window n (top_at new x y)) (shown width height new n x y ∙ p.0) in
    q.0

-- on the screen
pub on_it : (width height x y : ℕ) → x < width → y < height → has_pixel (screen_rect width height) (pos x) (pos y) ≡ true
on_it width height x y a b = on_screen width height x y ∙ (rw (lt-ltb x width a, lt-ltb y height b) refl)

free_pixel : (width height : ℕ) (ws : List Window) (free : List Rect) → ((x y : ℤ) → inside free x y ≡ (has_pixel (screen_rect width height) x y && is_none (top_at ws x y))) → (x y : ℕ) → x < width → y < height → inside free (pos x) (pos y) ≡ is_none (top ws x y)
free_pixel width height ws free f x y c d = f (pos x) (pos y) ∙ (λ i. on_it width height x y c d i && is_none (top_pixel ws x y i))

-- what was at a pixel is kept there, or came along to it
abbrev pub is_kept : ℕ → ℕ → List Window → List Window → Option ℕ → ℕ → ℕ → Bool
is_kept width height old new moved x y = is_some (carried_from width height old new moved x y) || (same_top (top old x y) (top new x y) && not (is_displaced moved old new (top new x y)))

-- where no window shows, nothing is carried
kept_bare : (width height : ℕ) (old new : List Window) (moved : Option ℕ) (x y : ℕ) → is_none (top new x y) ≡ true → is_kept width height old new moved x y ≡ is_none (top old x y)
kept_bare width height old new moved x y e = by_top (top new x y) refl e
  where
    nobody : (n : ℕ) → top new x y ≡ None → clips width height new n x y ≡ false
    nobody n is = rw is (by (nat_lt x width) (nat_lt y height))
      where
        by : (a b : Bool) → (a && (b && false)) ≡ false
        by true true = refl
        by true false = refl
        by false b = refl

    nothing : (moved : Option ℕ) → top new x y ≡ None → is_some (carried_from width height old new moved x y) ≡ false
    nothing None is = refl
    nothing (Some n) is = rw (nobody n is) refl

    tell : (o : Option Window) → (same_top o None && true) ≡ is_none o
    tell None = refl
    tell (Some a) = refl

    by_top : (t : Option Window) → top new x y ≡ t → is_none t ≡ true → is_kept width height old new moved x y ≡ is_none (top old x y)
    by_top None is e = rw (nothing moved is, is) (tell (top old x y))
    by_top (Some a) is e = absurd (true≢false (sym e))

pub root_paints : (root : Rgb) (width height : ℕ) (old new : List Window) (moved : Option ℕ) (was free rs : List Rect) (ps : List Paint) → ((x y : ℤ) → inside was x y ≡ (has_pixel (screen_rect width height) x y && is_none (top_at old x y))) → ((x y : ℤ) → inside free x y ≡ (has_pixel (screen_rect width height) x y && is_none (top_at new x y))) →
    ((x y : ℤ) → inside rs x y ≡ (inside free x y && not (inside was x y))) → AllPairs IsApart rs → AllByRecursion IsProper rs → ps ≡ map (paint_of root) rs →
    ArePartlyPaints width height root old new moved 0 ps
root_paints root width height old new moved was free rs ps was_is free_is f apart proper e = subst (λ (qs : List Paint). ArePartlyPaints width height root old new moved 0 qs) (sym e) (record {
  each = paint_region_each width height root rs proper on;
  apart = paint_region_apart width height root rs apart proper on;
  right = λ x y a b. paint_region_at width height root rs (rects_on width height rs proper on) x y ∙ by x y a b;
})
  where
    on : AreOnScreen width height rs
    on = bared_on width height new free was rs free_is f

    tell : (t : Option Window) (kept bare : Bool) → (is_none t ≡ true → kept ≡ bare) → (if is_none t && not bare then Some root else None) ≡ partly root kept t None
    tell None kept true same = rw (same refl) refl
    tell None kept false same = rw (same refl) refl
    tell (Some b) kept bare same = refl

    pixel : (x y : ℕ) → x < width → y < height → inside rs (pos x) (pos y) ≡ (is_none (top new x y) && not (is_none (top old x y)))
    pixel x y a b = f (pos x) (pos y) ∙ (λ i. free_pixel width height new free free_is x y a b i && not (free_pixel width height old was was_is x y a b i))

    by : (x y : ℕ) → x < width → y < height → (if inside rs (pos x) (pos y) then Some root else None) ≡ partly root (is_kept width height old new moved x y) (top new x y) None
    by x y a b = ap (λ t. if t then Some root else None) (pixel x y a b) ∙ tell (top new x y) (is_kept width height old new moved x y) (is_none (top old x y)) (kept_bare width height old new moved x y)

pub shows_pixel : (width height : ℕ) (ws : List Window) (n x y : ℕ) → x < width → y < height → shows width height ws n (pos x) (pos y) ≡ is_window n (top ws x y)
shows_pixel width height ws n x y a b = rw (lt-ltb x width a, lt-ltb y height b) refl

-- the set of a window's pixels, at any place
pub some_shown : (width height : ℕ) (ws : List Window) (n : ℕ) (x y : ℤ) → is_some (pixel_in (clips width height ws n) x y) ≡ shows width height ws n x y
some_shown width height ws n (pos x) (pos y) = by (clips width height ws n x y)
  where
    by : (b : Bool) → is_some {T = ℕ × ℕ} (if b then Some (x, y) else None) ≡ b
    by true = refl
    by false = refl
some_shown width height ws n (pos x) (negsuc y) = refl
some_shown width height ws n (negsuc x) y = refl

-- where window n shows now, what has stayed of it is just what is kept
stayed_kept : (width height : ℕ) (old new : List Window) (moved : Option ℕ) (n x y : ℕ) → x < width → y < height → is_window n (top new x y) ≡ true →
    stayed width height old new moved n (pos x) (pos y) ≡ is_kept width height old new moved x y
stayed_kept width height old new moved n x y a b on_top = by_moved moved
  where
    shown_now : clips width height new n x y ≡ true
    shown_now = shows_pixel width height new n x y a b ∙ on_top

    same_as : (o t : Option Window) → is_window n t ≡ true → is_window n o ≡ same_top o t
    same_as o None e = absurd (true≢false (sym e))
    same_as None (Some t) e = refl
    same_as (Some v) (Some t) e = ap (λ k. v.number == k) (sym (eqb-true t.number n e))

    shown_before : shows width height old n (pos x) (pos y) ≡ same_top (top old x y) (top new x y)
    shown_before = shows_pixel width height old n x y a b ∙ same_as (top old x y) (top new x y) on_top

    and_true : (c : Bool) → (c && true) ≡ c
    and_true true = refl
    and_true false = refl

    by_moved : (moved : Option ℕ) → stayed width height old new moved n (pos x) (pos y) ≡ is_kept width height old new moved x y
    by_moved None = rw (not_displaced None old new n (top new x y) on_top refl) (shown_before ∙ sym (and_true (same_top (top old x y) (top new x y))))
    by_moved (Some m) = by_number (m == n) refl
      where
        by_number : (c : Bool) → (m == n) ≡ c → stayed width height old new (Some m) n (pos x) (pos y) ≡ is_kept width height old new (Some m) x y
        by_number false e = rw (e, not_displaced (Some m) old new n (top new x y) on_top e, elsewhere) (shown_before ∙ sym (and_true (same_top (top old x y) (top new x y))))
          where
            other_top : (t : Option Window) → is_window n t ≡ true → is_window m t ≡ false
            other_top None h = absurd (true≢false (sym h))
            other_top (Some t) h = ne_eqb t.number m (λ (i : t.number ≡ m). true≢false (sym (eq-eqb m n (sym i ∙ eqb-true t.number n h)) ∙ e))

            elsewhere : is_some (carried_from width height old new (Some m) x y) ≡ false
            elsewhere = rw (lt-ltb x width a, lt-ltb y height b, other_top (top new x y) on_top) refl
        by_number true e = rw e (subst (λ (k : ℕ). shows width height old n (pos x -ℤ (shift old new n).0) (pos y -ℤ (shift old new n).1) ≡ is_kept width height old new (Some k) x y) (sym (eqb-true m n e)) at_own)
          where
            at_own : shows width height old n (pos x -ℤ (shift old new n).0) (pos y -ℤ (shift old new n).1) ≡ is_kept width height old new (Some n) x y
            at_own = sym (some_shown width height old n (pos x -ℤ (shift old new n).0) (pos y -ℤ (shift old new n).1)) ∙ rw shown_now (by_place (same_origin (origin old n) (origin new n)) refl)
              where
                displaced : (c : Bool) (t : Option Window) → is_window n t ≡ true → same_origin (origin old n) (origin new n) ≡ c → is_displaced (Some n) old new t ≡ not c
                displaced c None h same = absurd (true≢false (sym h))
                displaced c (Some t) h same = subst (λ (k : ℕ). ((n == k) && not (same_origin (origin old k) (origin new k))) ≡ not c) (sym (eqb-true t.number n h)) (rw (eq-eqb n n refl, same) refl)

                by_place : (c : Bool) → same_origin (origin old n) (origin new n) ≡ c → is_some (was_at width height old new n x y) ≡ (is_some (was_at width height old new n x y) || (same_top (top old x y) (top new x y) && not (is_displaced (Some n) old new (top new x y))))
                by_place false same = rw (displaced false (top new x y) on_top same) (neither (is_some (was_at width height old new n x y)) (same_top (top old x y) (top new x y)))
                  where
                    neither : (s t : Bool) → s ≡ (s || (t && false))
                    neither true t = refl
                    neither false true = refl
                    neither false false = refl
                by_place true same = rw (displaced true (top new x y) on_top same) (both (is_some (was_at width height old new n x y)) (same_top (top old x y) (top new x y)) was_same)
                  where
                    corners : (int_eq (origin old n).0 (origin new n).0 ≡ true) × (int_eq (origin old n).1 (origin new n).1 ≡ true)
                    corners = and_parts (int_eq (origin old n).0 (origin new n).0) (int_eq (origin old n).1 (origin new n).1) same

                    column : pos x -ℤ (shift old new n).0 ≡ pos x
                    column = nowhere (pos x) (origin new n).0 (origin old n).0 (sym ((Decides-int_eq (origin old n).0 (origin new n).0).0 corners.0))

                    row : pos y -ℤ (shift old new n).1 ≡ pos y
                    row = nowhere (pos y) (origin new n).1 (origin old n).1 (sym ((Decides-int_eq (origin old n).1 (origin new n).1).0 corners.1))

                    was_same : is_some (was_at width height old new n x y) ≡ same_top (top old x y) (top new x y)
                    was_same = some_shown width height old n (pos x -ℤ (shift old new n).0) (pos y -ℤ (shift old new n).1) ∙ (λ i. shows width height old n (column i) (row i)) ∙ shown_before

                    both : (s t : Bool) → s ≡ t → s ≡ (s || (t && true))
                    both true t e = refl
                    both false t e = e ∙ sym (and_true t)

pub window_paints : (root : Rgb) (width height : ℕ) (old new : List Window) (moved : Option ℕ) (k j : ℕ) (w : Window) (rs : List Rect) (ps qs : List Paint) → j ≡ k + 1 → AreDistinct new → slice_get new k ≡ Some w → IsGain width height old new moved w.number rs → AllPairs IsApart rs → AllByRecursion IsProper rs →
    ArePartlyPaints width height root old new moved k ps → qs ≡ ps ++ map (paint_of w.background) rs → ArePartlyPaints width height root old new moved j qs
window_paints root width height old new moved k j w rs ps qs next distinct here gain apart proper before e =
    subst (λ (us : List Paint). ArePartlyPaints width height root old new moved j us) (sym e)
    (subst (λ (m : ℕ). ArePartlyPaints width height root old new moved m (ps ++ map (paint_of w.background) rs)) (let s : suc k ≡ j = omega arith in s) (record {
      each = All-append (λ p. IsOnScreen width height p.rect) ps (map (paint_of w.background) rs) before.each (paint_region_each width height w.background rs proper on);
      apart = all_pairs_append (λ p q. AreApart p.rect q.rect) ps (map (paint_of w.background) rs) before.apart (paint_region_apart width height w.background rs apart proper on) across;
      right = λ x y a b. paint_append ps (map (paint_of w.background) rs) x y ∙ (λ i. or_else (before.right x y a b i) (added x y a b i)) ∙ stepped x y;
    }))
  where
    on : AreOnScreen width height rs
    on = gain_on width height old new moved w.number rs gain

    pixel : (x y : ℕ) → x < width → y < height → inside rs (pos x) (pos y) ≡ (is_window w.number (top new x y) && not (is_kept width height old new moved x y))
    pixel x y a b =
        gain (pos x) (pos y) ∙ ap (λ c. c && not (stayed width height old new moved w.number (pos x) (pos y))) (shows_pixel width height new w.number x y a b)
        ∙ by (is_window w.number (top new x y)) refl
      where
        by : (c : Bool) → is_window w.number (top new x y) ≡ c → (c && not (stayed width height old new moved w.number (pos x) (pos y))) ≡ (c && not (is_kept width height old new moved x y))
        by true is = ap not (stayed_kept width height old new moved w.number x y a b is)
        by false is = refl

    added : (x y : ℕ) → x < width → y < height → paint_at (map (paint_of w.background) rs) x y ≡ (if is_window w.number (top new x y) && not (is_kept width height old new moved x y) then Some w.background else None)
    added x y a b = paint_region_at width height w.background rs (rects_on width height rs proper on) x y ∙ ap (λ t. if t then Some w.background else None) (pixel x y a b)

    stepped : (x y : ℕ) → or_else (partly root (is_kept width height old new moved x y) (top new x y) (top (take k new) x y)) (if is_window w.number (top new x y) && not (is_kept width height old new moved x y) then Some w.background else None)
        ≡ partly root (is_kept width height old new moved x y) (top new x y) (top (take (suc k) new) x y)
    stepped x y =
        step root (is_kept width height old new moved x y) (top new x y) (top (take k new) x y) w (w.mapped && window_has w x y) (top_at_place new k w distinct here x y) (top_here new k w here x y)
        ∙ ap (λ (u : Option Window). partly root (is_kept width height old new moved x y) (top new x y) u) (sym (top_more new k w here x y))

    across : (i m : ℕ) (d : Paint) → i < length ps → m < length (map (paint_of w.background) rs) → AreApart (get_or ps i d).rect (get_or (map (paint_of w.background) rs) m d).rect
    across i m d a b x y = by (in_rect (get_or ps i d).rect x y) (in_rect (get_or (map (paint_of w.background) rs) m d).rect x y) refl refl
      where
        by : (s t : Bool) → in_rect (get_or ps i d).rect x y ≡ s → in_rect (get_or (map (paint_of w.background) rs) m d).rect x y ≡ t → (s && t) ≡ false
        by true true g h =
            let q = region_painted width height w.background rs proper on m d x y b h in
            let r = and_parts (is_window w.number (top new x y)) (not (is_kept width height old new moved x y)) (sym (pixel x y q.0 q.1) ∙ q.2) in
            let some = painted_at ps i d x y a g in
            let none = before.right x y q.0 q.1 ∙ nothing_yet root (is_kept width height old new moved x y) (top new x y) (top (take k new) x y) w (w.mapped && window_has w x y) (top_at_place new k w distinct here x y) r.0 in
            absurd (true≢false (sym some ∙ ap (λ o. is_some o) none))
        by true false g h = refl
        by false t g h = refl

pub no_paints : (root : Rgb) (width height : ℕ) (old new : List Window) (moved : Option ℕ) (k j : ℕ) (w : Window) (ps : List Paint) → j ≡ k + 1 → AreDistinct new → slice_get new k ≡ Some w → Stands width height old new w.number →
    ArePartlyPaints width height root old new moved k ps → ArePartlyPaints width height root old new moved j ps
no_paints root width height old new moved k j w ps next distinct here same before =
    window_paints root width height old new moved k j w [] ps ps next distinct here (gain_kept width height old new moved w.number same) (λ i m d up below. absurd (omega arith)) tt before (none ps)
  where
    none : (qs : List Paint) → qs ≡ qs ++ []
    none [] = refl
    none (q ∷ qs) = ap (λ rs. q ∷ rs) (none qs)

pub all_paints : (root : Rgb) (width height : ℕ) (old new : List Window) (moved : Option ℕ) (k : ℕ) (ps : List Paint) → length new ≤ k → ArePartlyPaints width height root old new moved k ps → ArePaints width height root old new moved ps
all_paints root width height old new moved k ps far before = record {
  each = before.each;
  apart = before.apart;
  right = λ x y a b. before.right x y a b ∙ ap (λ (ws : List Window). partly root (is_kept width height old new moved x y) (top new x y) (top ws x y)) (take_all k new far) ∙ by (is_kept width height old new moved x y) (top new x y);
}
  where
    by : (kept : Bool) (t : Option Window) → partly root kept t t ≡ wanted root kept t
    by kept None = refl
    by kept (Some w) = refl
