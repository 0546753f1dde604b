-- Drawing in one rectangle more.
use Rattle.std.proofs.Common.{◌≡◌, ◌≤◌, ◌-ℤ◌, ℕ, suc, ◌+◌, ℤ, pos, List, [], ◌∷◌, take, Bool, true, false, ◌||◌, if◌then◌else◌, Some, slice_get, refl, ◌∙◌, sym, ap, subst, arith, Result, Ok, Err, IsOk, OnOk}
use Rattle.std.proofs.lemmas.Bool.Decides.{nat_tests}
use Rattle.dri_base.specs.declared.colour.Pixel.{Pixel}
use Rattle.dri_base.specs.declared.colour.Rgb.{Rgb}
use Rattle.dri_base.specs.declared.shape.ClipRect.{ClipRect}
use Rattle.dri_base.specs.declared.shape.Point.{Point}
use Rattle.dri_base.specs.declared.shape.Rect.{Rect}
use Rattle.dri_base.specs.declared.shape.Triangle.{Triangle}
use Rattle.dri_card.specs.Contents.{Contents, HaveSides, Holds, KeepSides, Shows}
use Rattle.dri_card.specs.Drawing.{OnlyCarried, OnlyDrawn, OnlyShown, after_triangle, cleared, drawn, swapped}
use Rattle.dri_rect.specs.Pixels.{inside, has_pixel}
use Rattle.dri_draw.specs.Drawing.{IsScreen, OnlyDrawnOn, cleared_in, drawn_in, in_clips, swapped_in}
use Rattle.dri_draw.proofs.Rects.{IsSameRect, inside_more, same_pixels}

-- a fact of the case that it is
pub on_ok : {A E : Type 0} (r : Result A E) (P : Type 0) → IsOk r → OnOk r P → P
on_ok (Ok x) P is p = p
on_ok (Err e) P is p = grind (arith, nat_tests)

-- functions that agree at each pixel
pub holds_same : (v : Contents) (f g : ℕ → ℕ → Pixel) → ((x y : ℕ) → f x y ≡ g x y) → Holds v f → Holds v g
holds_same v f g e h = subst (Holds v) (λ i x y. e x y i) h

pub shows_same : (v : Contents) (f g : ℕ → ℕ → Rgb) → ((x y : ℕ) → f x y ≡ g x y) → Shows v f → Shows v g
shows_same v f g e h = subst (Shows v) (λ i x y. e x y i) h

-- what stays, over two steps
pub only_drawn : (a b c : Contents) → OnlyDrawn a b → OnlyDrawn b c → OnlyDrawn a c
only_drawn a b c p q = q ∙ ap {A = Contents} (λ v. record v { back = c.back; depth = c.depth }) p

pub only_drawn_on : (a b c : Contents) → OnlyDrawnOn a b → OnlyDrawnOn b c → OnlyDrawnOn a c
only_drawn_on a b c p q = q ∙ ap {A = Contents} (λ v. record v { back = c.back; depth = c.depth; clip = c.clip }) p

pub only_shown : (a b c : Contents) → OnlyShown a b → OnlyShown b c → OnlyShown a c
only_shown a b c p q = q ∙ ap {A = Contents} (λ v. record v { front = c.front }) p

-- the pairs stay where only front or the clip changes
pub holds_shown : (a b : Contents) (f : ℕ → ℕ → Pixel) → OnlyShown a b → Holds a f → Holds b f
holds_shown a b f only h = record { colours = rw (ap {A = Contents} (λ v. v.back) only) h.colours; depths = rw (ap {A = Contents} (λ v. v.depth) only) h.depths }

pub holds_clipped : (a b : Contents) (c : ClipRect) (f : ℕ → ℕ → Pixel) → b ≡ record a { clip = c } → Holds a f → Holds b f
holds_clipped a b c f is h = record { colours = rw (ap {A = Contents} (λ v. v.back) is) h.colours; depths = rw (ap {A = Contents} (λ v. v.depth) is) h.depths }

-- only the planes change where only front does after that
pub planes_shown : (a b c : Contents) → OnlyCarried a b → OnlyShown b c → OnlyCarried a c
planes_shown a b c planes only =
    let e : c ≡ record a { front = c.front; back = b.back; depth = b.depth } = only ∙ ap {A = Contents} (λ v. record v { front = c.front }) planes in
    e ∙ (λ i. record a { front = c.front; back = back i; depth = depth i })
  where
    back : b.back ≡ c.back
    back = sym (ap {A = Contents} (λ v. v.back) only)

    depth : b.depth ≡ c.depth
    depth = sym (ap {A = Contents} (λ v. v.depth) only)

-- a screen stays one where the sides do
pub screen_kept : (a b : Contents) → IsScreen a → KeepSides a b → IsScreen b
screen_kept a b screen keep = record {
  sides = record {
    front_width = refl;
    front_height = refl;
    back_width = s.back_width ∙ sym s.front_width;
    back_height = s.back_height ∙ sym s.front_height;
    depth_width = s.depth_width ∙ sym s.front_width;
    depth_height = s.depth_height ∙ sym s.front_height;
  };
  wide = subst (λ n. n ≤ 1024) (sym s.front_width) screen.wide;
  high = subst (λ n. n ≤ 1024) (sym s.front_height) screen.high;
}
  where
    s : HaveSides b a.front.width a.front.height
    s = keep a.front.width a.front.height screen.sides

-- the sides of a screen's planes
pub screen_sides : (v : Contents) (width height : ℕ) → HaveSides v v.front.width v.front.height → v.front.width ≡ width → v.front.height ≡ height → HaveSides v width height
screen_sides v width height s w h = record {
  front_width = w;
  front_height = h;
  back_width = s.back_width ∙ w;
  back_height = s.back_height ∙ h;
  depth_width = s.depth_width ∙ w;
  depth_height = s.depth_height ∙ h;
}

-- the pixels of one rectangle more
pub clips_more : (rs : List Rect) (i : ℕ) (r : Rect) (x y : ℕ) → slice_get rs i ≡ Some r → in_clips (take (i + 1) rs) x y ≡ (in_clips (take i rs) x y || has_pixel r (pos x) (pos y))
clips_more rs i r x y e = subst (λ n. in_clips (take n rs) x y ≡ (in_clips (take i rs) x y || has_pixel r (pos x) (pos y))) (next i) (inside_more rs i r (pos x) (pos y) e)
  where
    next : (n : ℕ) → suc n ≡ n + 1
    next n = omega arith

either : {A : Type 0} (a b : Bool) (t e : A) → (if b then t else (if a then t else e)) ≡ (if a || b then t else e)
either true true t e = refl
either true false t e = refl
either false true t e = refl
either false false t e = refl

once : {A : Type 0} (a b : Bool) (d : A → A) (e : A) → (b ≡ true → a ≡ false) → (if b then d (if a then d e else e) else (if a then d e else e)) ≡ (if a || b then d e else e)
once true true d e apart = grind (arith, nat_tests)
once true false d e apart = refl
once false true d e apart = refl
once false false d e apart = refl

pub cleared_more : (rs : List Rect) (i : ℕ) (r : Rect) (c : ClipRect) (colour : Rgb) (depth : ℕ) (f : ℕ → ℕ → Pixel) → slice_get rs i ≡ Some r → IsSameRect r c →
    (x y : ℕ) → cleared c colour depth (cleared_in (take i rs) colour depth f) x y ≡ cleared_in (take (i + 1) rs) colour depth f x y
cleared_more rs i r c colour depth f e same x y =
    rw (same_pixels r c x y same, clips_more rs i r x y e) (either (in_clips (take i rs) x y) (has_pixel r (pos x) (pos y)) (record { colour = colour; depth = depth }) (f x y))

pub swapped_more : (rs : List Rect) (i : ℕ) (r : Rect) (c : ClipRect) (f : ℕ → ℕ → Pixel) (front : ℕ → ℕ → Rgb) → slice_get rs i ≡ Some r → IsSameRect r c →
    (x y : ℕ) → swapped c f (swapped_in (take i rs) f front) x y ≡ swapped_in (take (i + 1) rs) f front x y
swapped_more rs i r c f front e same x y =
    rw (same_pixels r c x y same, clips_more rs i r x y e) (either (in_clips (take i rs) x y) (has_pixel r (pos x) (pos y)) (f x y).colour (front x y))

pub drawn_once : (v : Contents) (o : Point) (t : Triangle) (r : Rect) (c : ClipRect) (f : ℕ → ℕ → Pixel) → IsSameRect r c →
    (x y : ℕ) → after_triangle (record v { clip = c }) o t f x y ≡ drawn_in v o t (r ∷ []) f x y
drawn_once v o t r c f same x y = rw (same_pixels r c x y same) (one (has_pixel r (pos x) (pos y)) (drawn v t (pos x -ℤ o.x) (pos y -ℤ o.y) (f x y)) (f x y))
  where
    one : (b : Bool) (p q : Pixel) → (if b then p else q) ≡ (if b || false then p else q)
    one true p q = refl
    one false p q = refl

-- a dispatch in one rectangle
pub rect_drawn : (a b d : Contents) (o : Point) (t : Triangle) (r : Rect) (c : ClipRect) (f : ℕ → ℕ → Pixel) → IsSameRect r c → b ≡ record a { clip = c } → Holds a f → (Holds b f → Holds d (after_triangle b o t f)) → Holds d (drawn_in a o t (r ∷ []) f)
rect_drawn a b d o t r c f same clipped holds draws =
    holds_same d (after_triangle (record a { clip = c }) o t f) (drawn_in a o t (r ∷ []) f) (drawn_once a o t r c f same)
    (subst (λ (v : Contents). Holds d (after_triangle v o t f)) clipped (draws (holds_clipped a b c f clipped holds)))

pub clipped_on : (a b d : Contents) (c : ClipRect) → b ≡ record a { clip = c } → OnlyDrawn b d → OnlyDrawnOn a d
clipped_on a b d c clipped only =
    let e : d ≡ record a { back = d.back; depth = d.depth; clip = c } = only ∙ ap {A = Contents} (λ v. record v { back = d.back; depth = d.depth }) clipped in
    e ∙ ap (λ (k : ClipRect). record a { back = d.back; depth = d.depth; clip = k }) (sym (ap (λ (v : Contents). v.clip) e))

pub clipped_sides : (a b : Contents) (c : ClipRect) → b ≡ record a { clip = c } → KeepSides a b
clipped_sides a b c clipped w h s = subst (λ (v : Contents). HaveSides v w h) (sym clipped) (record { front_width = s.front_width; front_height = s.front_height; back_width = s.back_width; back_height = s.back_height; depth_width = s.depth_width; depth_height = s.depth_height })

pub drawn_more : (v w : Contents) (o : Point) (t : Triangle) (rs : List Rect) (i : ℕ) (r : Rect) (f : ℕ → ℕ → Pixel) → OnlyDrawnOn v w → slice_get rs i ≡ Some r →
    ((x y : ℤ) → has_pixel r x y ≡ true → inside (take i rs) x y ≡ false) →
    (x y : ℕ) → drawn_in w o t (r ∷ []) (drawn_in v o t (take i rs) f) x y ≡ drawn_in v o t (take (i + 1) rs) f x y
drawn_more v w o t rs i r f only e apart x y =
    rw only (rw (clips_more rs i r x y e) (alone (has_pixel r (pos x) (pos y)) (in_clips (take i rs) x y) (apart (pos x) (pos y))))
  where
    d : Pixel → Pixel
    d = drawn v t (pos x -ℤ o.x) (pos y -ℤ o.y)

    alone : (b a : Bool) → (b ≡ true → a ≡ false) → (if b || false then d (if a then d (f x y) else f x y) else (if a then d (f x y) else f x y)) ≡ (if a || b then d (f x y) else f x y)
    alone true a ap = once a true d (f x y) ap
    alone false a ap = once a false d (f x y) ap
