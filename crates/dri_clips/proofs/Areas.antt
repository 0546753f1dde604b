-- The area of a new stack, and the windows that it reaches.
use Rattle.std.proofs.Common.{◌≡◌, ℕ, zero, suc, ◌≤◌, ◌+◌, ◌*◌, length, take, List, [], ◌∷◌, ◌++◌, Bool, true, false, cond, arith, refl, sym, ◌∙◌, ap, subst, Some, slice_get, filter, is_some, inl, inr, mul-le-mul_left}
use Rattle.std.specs.Prelude.{ℤ, ◌&&◌, ◌||◌, ◌⊎◌, if◌then◌else◌}
use Rattle.std.proofs.lemmas.Bool.{true≢false, and_parts}
use Rattle.std.proofs.lemmas.List.{take_all}
use Rattle.std.proofs.Math.Bool.{or-false, or_assoc}
use Rattle.dri_base.specs.declared.scene.Window.{Window}
use Rattle.dri_base.specs.declared.shape.Rect.{Rect}
use Rattle.dri_rect.specs.Extents.{shared_by}
use Rattle.dri_rect.specs.Pixels.{has_pixel, inside}
use Rattle.dri_rect.proofs.Bounds.{shared_pixels}
use Rattle.dri_clips.specs.Areas.{has_named, in_area, is_reached, meets, meets_window, named_in, share_pixel}
use Rattle.dri_clips.specs.Boards.{is_mapped}
use Rattle.dri_clips.specs.Mends.{is_met}
use Rattle.dri_model.specs.Stacks.{window_in}
use Rattle.dri_clips.specs.Layouts.{has_place, screen_rect, window_rect}
use Rattle.dri_clips.proofs.Lists.{has_share, share_has}
use Rattle.dri_clips.proofs.Placing.{take_one}

-- rectangles met
meets_append : (rs : List Rect) (s r : Rect) → meets (rs ++ s ∷ []) r ≡ (meets rs r || share_pixel s r)
meets_append [] s r = or-false (share_pixel s r)
meets_append (q ∷ rs) s r = ap (λ b. share_pixel q r || b) (meets_append rs s r) ∙ sym (or_assoc (share_pixel q r) (meets rs r) (share_pixel s r))

pub meets_more : (rs : List Rect) (i j : ℕ) (s r : Rect) → j ≡ i + 1 → slice_get rs i ≡ Some s → meets (take i rs) r ≡ false → share_pixel s r ≡ false → meets (take j rs) r ≡ false
meets_more rs i j s r e at before here = ap (λ (qs : List Rect). meets qs r) (take_one rs i j s e at) ∙ meets_append (take i rs) s r ∙ (λ k. before k || here k)

pub meets_found : (rs : List Rect) (i : ℕ) (s r : Rect) → slice_get rs i ≡ Some s → share_pixel s r ≡ true → meets rs r ≡ true
meets_found [] i s r e h = absurd (true≢false (ap (λ o. is_some o) (sym e)))
meets_found (q ∷ rs) zero s r e h = let same : q ≡ s = cc in let g : share_pixel q r ≡ true = subst (λ (t : Rect). share_pixel t r ≡ true) (sym same) h in rw g refl
meets_found (q ∷ rs) (suc i) s r e h = by (share_pixel q r) (meets_found rs i s r e h)
  where
    by : (b : Bool) → meets rs r ≡ true → (b || meets rs r) ≡ true
    by true f = refl
    by false f = f

pub meets_all : (rs : List Rect) (i : ℕ) (r : Rect) → length rs ≤ i → meets (take i rs) r ≡ false → meets rs r ≡ false
meets_all rs i r far e = ap (λ (qs : List Rect). meets qs r) (sym (take_all i rs far)) ∙ e

-- named windows, one after another
named_append : (named : Window → Bool) (ws : List Window) (w : Window) (x y : ℤ) → has_named named (ws ++ w ∷ []) x y ≡ (has_named named ws x y || (named w && has_place w x y))
named_append named [] w x y = or-false (named w && has_place w x y)
named_append named (v ∷ ws) w x y = ap (λ b. (named v && has_place v x y) || b) (named_append named ws w x y) ∙ sym (or_assoc (named v && has_place v x y) (has_named named ws x y) (named w && has_place w x y))

pub added : (named : Bool) (screen both : Rect) (w : Window) (area rect next : List Rect) → named ≡ true → w.mapped ≡ true → both ≡ shared_by screen (window_rect w) → ((x y : ℤ) → inside rect x y ≡ has_pixel both x y) → ((x y : ℤ) → inside next x y ≡ (inside area x y || inside rect x y)) →
    (x y : ℤ) → inside next x y ≡ (inside area x y || (has_pixel screen x y && (named && has_place w x y)))
added named screen both w area rect next n m e f g x y =
    g x y ∙ ap (λ b. inside area x y || b) (f x y ∙ ap (λ (r : Rect). has_pixel r x y) e ∙ shared_pixels screen (window_rect w) x y ∙ (λ i. has_pixel screen x y && (sym n i && (sym m i && has_pixel (window_rect w) x y))))

spread : (a s h g : Bool) → ((a || (s && h)) || (s && g)) ≡ (a || (s && (h || g)))
spread true s h g = refl
spread false true h g = refl
spread false false h g = refl

-- the named windows of both stacks
pub both_named : (named : Window → Bool) (screen : Rect) (old new : List Window) (none area next : List Rect) → none ≡ [] →
    ((x y : ℤ) → inside area x y ≡ (inside none x y || (has_pixel screen x y && has_named named old x y))) →
    ((x y : ℤ) → inside next x y ≡ (inside area x y || (has_pixel screen x y && has_named named new x y))) →
    (x y : ℤ) → inside next x y ≡ (has_pixel screen x y && (has_named named old x y || has_named named new x y))
both_named named screen old new none area next e first second x y =
    second x y ∙ ap (λ b. b || (has_pixel screen x y && has_named named new x y)) (first x y ∙ ap (λ (rs : List Rect). inside rs x y || (has_pixel screen x y && has_named named old x y)) e)
    ∙ spread false (has_pixel screen x y) (has_named named old x y) (has_named named new x y)

pub named_more : (named : Window → Bool) (screen : Rect) (ws : List Window) (i j : ℕ) (w : Window) (first area next : List Rect) → j ≡ i + 1 → slice_get ws i ≡ Some w →
    ((x y : ℤ) → inside area x y ≡ (inside first x y || (has_pixel screen x y && has_named named (take i ws) x y))) →
    ((x y : ℤ) → inside next x y ≡ (inside area x y || (has_pixel screen x y && (named w && has_place w x y)))) →
    (x y : ℤ) → inside next x y ≡ (inside first x y || (has_pixel screen x y && has_named named (take j ws) x y))
named_more named screen ws i j w first area next e at before now x y =
    now x y ∙ ap (λ b. b || (has_pixel screen x y && (named w && has_place w x y))) (before x y) ∙ spread (inside first x y) (has_pixel screen x y) (has_named named (take i ws) x y) (named w && has_place w x y)
    ∙ ap (λ b. inside first x y || (has_pixel screen x y && b)) (sym (named_append named (take i ws) w x y) ∙ ap (λ (us : List Window). has_named named us x y) (sym (take_one ws i j w e at)))

-- and how many there are
filter_append_one : (p : Window → Bool) (ws : List Window) (w : Window) → length (filter p (ws ++ w ∷ [])) ≡ length (filter p ws) + (if p w then 1 else 0)
filter_append_one p [] w = by (p w)
  where
    by : (b : Bool) → length (cond b (w ∷ []) []) ≡ 0 + (if b then 1 else 0)
    by true = refl
    by false = refl
filter_append_one p (v ∷ ws) w = by (p v) (filter_append_one p ws w)
  where
    by : (b : Bool) → length (filter p (ws ++ w ∷ [])) ≡ length (filter p ws) + (if p w then 1 else 0) → length (cond b (v ∷ filter p (ws ++ w ∷ [])) (filter p (ws ++ w ∷ []))) ≡ length (cond b (v ∷ filter p ws) (filter p ws)) + (if p w then 1 else 0)
    by true e = omega (arith, e)
    by false e = e

pub count_more : (p : Window → Bool) (ws : List Window) (i j : ℕ) (w : Window) → j ≡ i + 1 → slice_get ws i ≡ Some w → length (filter p (take j ws)) ≡ length (filter p (take i ws)) + (if p w then 1 else 0)
count_more p ws i j w e at = ap (λ (us : List Window). length (filter p us)) (take_one ws i j w e at) ∙ filter_append_one p (take i ws) w

pub count_take : (p : Window → Bool) (ws : List Window) (i : ℕ) → length (filter p (take i ws)) ≤ length (filter p ws)
count_take p [] zero = omega arith
count_take p [] (suc i) = omega arith
count_take p (w ∷ ws) zero = omega arith
count_take p (w ∷ ws) (suc i) = by (p w) (count_take p ws i)
  where
    by : (b : Bool) → length (filter p (take i ws)) ≤ length (filter p ws) → length (cond b (w ∷ filter p (take i ws)) (filter p (take i ws))) ≤ length (cond b (w ∷ filter p ws) (filter p ws))
    by true e = omega (arith, e)
    by false e = e

-- k steps for each window that is counted
pub cost_more : (p : Window → Bool) (ws : List Window) (i j k start before after : ℕ) (w : Window) → j ≡ i + 1 → slice_get ws i ≡ Some w → before ≤ start + k * length (filter p (take i ws)) → after ≤ before + (if p w then k else 0) → after ≤ start + k * length (filter p (take j ws))
cost_more p ws i j k start before after w e at was is = by (p w) is (count_more p ws i j w e at)
  where
    by : (b : Bool) → after ≤ before + (if b then k else 0) → length (filter p (take j ws)) ≡ length (filter p (take i ws)) + (if b then 1 else 0) → after ≤ start + k * length (filter p (take j ws))
    by true f g = let d : k * length (filter p (take j ws)) ≡ k * length (filter p (take i ws)) + k = rw g (grind arith) in omega (arith, d, f, was)
    by false f g = let d : k * length (filter p (take j ws)) ≡ k * length (filter p (take i ws)) = rw g (grind arith) in omega (arith, d, f, was)

pub cost_all : (p : Window → Bool) (ws : List Window) (i k start after : ℕ) → after ≤ start + k * length (filter p (take i ws)) → after ≤ start + k * length (filter p ws)
cost_all p ws i k start after was = let d = count_take p ws i in let e : k * length (filter p (take i ws)) ≤ k * length (filter p ws) = grind (arith, mul-le-mul_left) in omega (arith, e, was)

-- a window that is met is reached
meets_place : (rs : List Rect) (r : Rect) → meets rs r ≡ true → (x : ℤ) × ((y : ℤ) × ((inside rs x y && has_pixel r x y) ≡ true))
meets_place [] r e = absurd (true≢false (sym e))
meets_place (s ∷ ss) r e = by (share_pixel s r) refl e (λ h. meets_place ss r h)
  where
    both : (a b c : Bool) → (a && c) ≡ true → ((a || b) && c) ≡ true
    both true b c f = f
    both false b c f = absurd (true≢false (sym f))

    later : (a b c : Bool) → (b && c) ≡ true → ((a || b) && c) ≡ true
    later true true c f = f
    later true false c f = absurd (true≢false (sym f))
    later false b c f = f

    by : (b : Bool) → share_pixel s r ≡ b → (b || meets ss r) ≡ true → (meets ss r ≡ true → (x : ℤ) × ((y : ℤ) × ((inside ss x y && has_pixel r x y) ≡ true))) → (x : ℤ) × ((y : ℤ) × ((inside (s ∷ ss) x y && has_pixel r x y) ≡ true))
    by true f g more = ((shared_by s r).x1, ((shared_by s r).y1, both (has_pixel s (shared_by s r).x1 (shared_by s r).y1) (inside ss (shared_by s r).x1 (shared_by s r).y1) (has_pixel r (shared_by s r).x1 (shared_by s r).y1) (share_has s r f)))
    by false f g more = let p = more g in (p.0, (p.1.0, later (has_pixel s p.0 p.1.0) (inside ss p.0 p.1.0) (has_pixel r p.0 p.1.0) p.1.1))

named_meets : (named : Window → Bool) (ws : List Window) (r : Rect) (x y : ℤ) → has_named named ws x y ≡ true → has_pixel r x y ≡ true → meets_window (named_in named ws) r ≡ true
named_meets named [] r x y e f = absurd (true≢false (sym e))
named_meets named (w ∷ ws) r x y e f = by (named w) w.mapped refl refl (has_pixel (window_rect w) x y) refl (λ h. named_meets named ws r x y h f)
  where
    or : (a : Bool) → meets_window (named_in named ws) r ≡ true → (a || meets_window (named_in named ws) r) ≡ true
    or true z = refl
    or false z = z

    tell : (a b c : Bool) → named w ≡ a → w.mapped ≡ b → has_pixel (window_rect w) x y ≡ c → ((a && (b && c)) || has_named named ws x y) ≡ true
    tell a b c p q k = (λ i. (sym p i && (sym q i && sym k i)) || has_named named ws x y) ∙ e

    by : (a b : Bool) → named w ≡ a → w.mapped ≡ b → (c : Bool) → has_pixel (window_rect w) x y ≡ c → (has_named named ws x y ≡ true → meets_window (named_in named ws) r ≡ true) → meets_window (named_in named (w ∷ ws)) r ≡ true
    by true true p q true k more = rw (p, q) (ap (λ b. b || meets_window (named_in named ws) r) (has_share (window_rect w) r x y k f))
    by true true p q false k more = rw (p, q) (or (share_pixel (window_rect w) r) (more (tell true true false p q k)))
    by true false p q c k more = rw (p, q) (more (tell true false c p q k))
    by false b p q c k more = rw p (more (tell false b c p q k))

or_right : (a b : Bool) → b ≡ true → (a || b) ≡ true
or_right true b e = refl
or_right false b e = e

or_true : (a b : Bool) → (a || b) ≡ true → (a ≡ true) ⊎ (b ≡ true)
or_true true b e = inl refl
or_true false b e = inr e

met_reached : (width height : ℕ) (named : Window → Bool) (old new : List Window) (area : List Rect) → ((x y : ℤ) → inside area x y ≡ in_area width height named old new x y) → (w : Window) → is_met named area w ≡ true → is_reached named old new w ≡ true
met_reached width height named old new area area_is w e =
    let p = and_parts w.mapped (named w || meets area (window_rect w)) e in
    let q : (named w || (meets_window (named_in named old) (window_rect w) || meets_window (named_in named new) (window_rect w))) ≡ true = elim (or_true (named w) (meets area (window_rect w)) p.1) [
      | inl n ↦ ap (λ b. b || (meets_window (named_in named old) (window_rect w) || meets_window (named_in named new) (window_rect w))) n
      | inr m ↦ or_right (named w) (meets_window (named_in named old) (window_rect w) || meets_window (named_in named new) (window_rect w)) (shares m)
    ] in
    (λ i. or_right (is_mapped (window_in old w.number)) w.mapped p.0 i && q i)
  where
    shares : meets area (window_rect w) ≡ true → (meets_window (named_in named old) (window_rect w) || meets_window (named_in named new) (window_rect w)) ≡ true
    shares m =
        let r = meets_place area (window_rect w) m in
        let s = and_parts (inside area r.0 r.1.0) (has_pixel (window_rect w) r.0 r.1.0) r.1.1 in
        let t = and_parts (has_pixel (screen_rect width height) r.0 r.1.0) (has_named named old r.0 r.1.0 || has_named named new r.0 r.1.0) (sym (area_is r.0 r.1.0) ∙ s.0) in
        elim (or_true (has_named named old r.0 r.1.0) (has_named named new r.0 r.1.0) t.1) [
          | inl a ↦ ap (λ b. b || meets_window (named_in named new) (window_rect w)) (named_meets named old (window_rect w) r.0 r.1.0 a s.1)
          | inr a ↦ or_right (meets_window (named_in named old) (window_rect w)) (meets_window (named_in named new) (window_rect w)) (named_meets named new (window_rect w) r.0 r.1.0 a s.1)
        ]

pub met_after : (width height : ℕ) (named : Window → Bool) (old new : List Window) (area : List Rect) → ((x y : ℤ) → inside area x y ≡ in_area width height named old new x y) → (w : Window) → is_met named area w ≡ true → (w.mapped && is_reached named old new w) ≡ true
met_after width height named old new area area_is w e =
    let p = and_parts w.mapped (named w || meets area (window_rect w)) e in
    (λ i. p.0 i && met_reached width height named old new area area_is w e i)

-- what is counted by one test is counted by a weaker one
pub count_weaker : (p q : Window → Bool) → ((w : Window) → p w ≡ true → q w ≡ true) → (ws : List Window) → length (filter p ws) ≤ length (filter q ws)
count_weaker p q f [] = omega arith
count_weaker p q f (w ∷ ws) = by (p w) (q w) refl refl (count_weaker p q f ws)
  where
    by : (a b : Bool) → p w ≡ a → q w ≡ b → length (filter p ws) ≤ length (filter q ws) → length (cond a (w ∷ filter p ws) (filter p ws)) ≤ length (cond b (w ∷ filter q ws) (filter q ws))
    by true true e g less = omega (arith, less)
    by true false e g less = absurd (true≢false (sym (f w e) ∙ g))
    by false true e g less = omega (arith, less)
    by false false e g less = less
