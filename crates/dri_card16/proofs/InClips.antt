-- Drawing in one rectangle more.
use Rattle.std.proofs.Common.{◌≡◌, ◌-ℤ◌, ℕ, ◌+◌, ℤ, pos, List, take, Bool, true, false, ◌||◌, if◌then◌else◌, Some, slice_get, refl, ◌∙◌, sym, ap}
use Rattle.std.proofs.lemmas.Bool.{true≢false}
use Rattle.dri_base.specs.declared.colour.Pixel.{Pixel}
use Rattle.dri_base.specs.declared.shape.ClipRect.{ClipRect}
use Rattle.dri_base.specs.declared.shape.Point.{Point}
use Rattle.dri_base.specs.declared.shape.Rect.{Rect}
use Rattle.dri_base.specs.declared.shape.Triangle.{Triangle}
use Rattle.dri_card.specs.Contents.{Contents, Holds}
use Rattle.dri_card16.specs.Calls.{after_triangle16, drawn16}
use Rattle.dri_card16.specs.Following.{drawn16_in}
use Rattle.dri_draw.proofs.Drawn.{clips_more, holds_clipped, holds_same}
use Rattle.dri_draw.proofs.Rects.{IsSameRect, same_pixels}
use Rattle.dri_draw.specs.Drawing.{OnlyDrawnOn, in_clips}
use Rattle.dri_rect.specs.Pixels.{has_pixel, inside}

-- of two sets that share nothing, one after the other is both at once
once : {A : Type 0} (a b : Bool) (d : A → A) (e : A) → (b ≡ true → a ≡ false) → (if b then d (if a then d e else e) else (if a then d e else e)) ≡ (if a || b then d e else e)
once true true d e apart = absurd (true≢false (apart refl))
once true false d e apart = refl
once false true d e apart = refl
once false false d e apart = refl

-- a dispatch in one rectangle, after others that share no pixel with it
pub drawn16_more : (v a b d : Contents) (o : Point) (t : Triangle) (rs : List Rect) (i : ℕ) (r : Rect) (c : ClipRect) (f : ℕ → ℕ → Pixel) → OnlyDrawnOn v a → b ≡ record a { clip = c } → IsSameRect r c → slice_get rs i ≡ Some r → ((x y : ℤ) → has_pixel r x y ≡ true → inside (take i rs) x y ≡ false) →
    Holds a (drawn16_in v o t (take i rs) f) → (Holds b (drawn16_in v o t (take i rs) f) → Holds d (after_triangle16 b o t (drawn16_in v o t (take i rs) f))) → Holds d (drawn16_in v o t (take (i + 1) rs) f)
drawn16_more v a b d o t rs i r c f only clipped same is apart holds draws =
    holds_same d (after_triangle16 b o t (drawn16_in v o t (take i rs) f)) (drawn16_in v o t (take (i + 1) rs) f) each (draws (holds_clipped a b c (drawn16_in v o t (take i rs) f) clipped holds))
  where
    -- the card draws by what it had
    own : b ≡ record v { back = a.back; depth = a.depth; clip = c }
    own = clipped ∙ ap {A = Contents} (λ u. record u { clip = c }) only

    at : (x y : ℕ) → Pixel → Pixel
    at x y = drawn16 v t (pos x -ℤ o.x) (pos y -ℤ o.y)

    each : (x y : ℕ) → after_triangle16 b o t (drawn16_in v o t (take i rs) f) x y ≡ drawn16_in v o t (take (i + 1) rs) f x y
    each x y =
        ap (λ (u : Contents). after_triangle16 u o t (drawn16_in v o t (take i rs) f) x y) own
        ∙ ap (λ (p : Bool). if p then at x y (drawn16_in v o t (take i rs) f x y) else drawn16_in v o t (take i rs) f x y) (same_pixels r c x y same)
        ∙ once (in_clips (take i rs) x y) (has_pixel r (pos x) (pos y)) (at x y) (f x y) (apart (pos x) (pos y))
        ∙ ap (λ (p : Bool). if p then at x y (f x y) else f x y) (sym (clips_more rs i r x y is))
