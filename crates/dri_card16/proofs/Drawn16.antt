-- Triangles and lines that are drawn one after another, and their steps.
use Rattle.std.proofs.Common.{◌≡◌, ℕ, ◌+◌, ◌≤◌, List, [], ◌∷◌, ◌++◌, take, length, fold, add-one, Bool, true, false, if◌then◌else◌, Option, Some, pos, ◌-ℤ◌, refl, sym, ap, ◌∙◌}
use Rattle.std.proofs.lemmas.List.{take_all}
use Rattle.std.proofs.lemmas.List.Sums.{fold-append}
use Rattle.std.proofs.lemmas.Option.{get_or_from_slice_get, slice_get_within}
use Rattle.std.proofs.Math.Seq.{take-suc}
use Rattle.std.specs.Prelude.{slice_get}
use Rattle.dri_base.specs.declared.colour.Pixel.{Pixel}
use Rattle.dri_base.specs.Fragments.{Rules}
use Rattle.dri_base.specs.Texels.{Image}
use Rattle.dri_base.specs.declared.shape.ClipRect.{ClipRect}
use Rattle.dri_base.specs.declared.shape.Point.{Point}
use Rattle.dri_base.specs.declared.shape.Triangle.{Triangle}
use Rattle.dri_base.specs.Planes.{in_rect}
use Rattle.dri_card.specs.Contents.{Contents, Holds}
use Rattle.dri_card.specs.Drawing.{OnlyDrawn}
use Rattle.dri_card16.specs.Calls.{after_triangle16, after_triangles16, covered16, drawn16, places16}
use Rattle.dri_card16.specs.Lines.{line_fragment}
use Rattle.dri_card16.specs.Packing.{kept}
use Rattle.dri_card16.specs.PixelRules.{kept_pair}
use Rattle.dri_plane.specs.Alike.{pairs_same}
use Rattle.dri_walk.specs.Drawings.{fragment_kept}

-- the pairs after a triangle that is drawn as a line, or isn't
abbrev pub drawn_as : Bool → Rules → Option Image → Triangle → ClipRect → Point → (ℕ → ℕ → Pixel) → ℕ → ℕ → Pixel
drawn_as b r image t clip origin f x y =
    if in_rect clip x y
    then (if b then line_fragment (kept_pair kept) r image t (pos x -ℤ origin.x) (pos y -ℤ origin.y) (f x y) else fragment_kept (kept_pair kept) r image t (pos x -ℤ origin.x) (pos y -ℤ origin.y) (f x y))
    else f x y

-- the card in whose planes alone something is drawn draws alike
drawn16_alike : (old mid : Contents) (origin : Point) (t : Triangle) (f : ℕ → ℕ → Pixel) (x y : ℕ) → OnlyDrawn old mid → after_triangle16 mid origin t f x y ≡ after_triangle16 old origin t f x y
drawn16_alike old mid origin t f x y only = ap (λ (v : Contents). after_triangle16 v origin t f x y) only

-- one triangle more
pub triangles_more : (old mid new : Contents) (origin : Point) (ts : List Triangle) (i : ℕ) (t : Triangle) (f : ℕ → ℕ → Pixel) → OnlyDrawn old mid → slice_get ts i ≡ Some t
    → Holds new (after_triangle16 mid origin t (after_triangles16 old origin (take i ts) f)) → Holds new (after_triangles16 old origin (take (i + 1) ts) f)
triangles_more old mid new origin ts i t f only is holds = pairs_same new.back new.depth _ _ (λ x y. drawn16_alike old mid origin t (after_triangles16 old origin (take i ts) f) x y only ∙ by x y (in_rect old.clip x y)) holds where
  longer : take (i + 1) ts ≡ take i ts ++ (t ∷ [])
  longer = rw (add-one i) (take-suc ts i t (slice_get_within ts i t is) ∙ ap (λ u. take i ts ++ (u ∷ [])) (get_or_from_slice_get ts i t t is))

  by : (x y : ℕ) (b : Bool) → (if b then drawn16 old t (pos x -ℤ origin.x) (pos y -ℤ origin.y) (if b then fold (λ under s. drawn16 old s (pos x -ℤ origin.x) (pos y -ℤ origin.y) under) (f x y) (take i ts) else f x y) else (if b then fold (λ under s. drawn16 old s (pos x -ℤ origin.x) (pos y -ℤ origin.y) under) (f x y) (take i ts) else f x y))
      ≡ (if b then fold (λ under s. drawn16 old s (pos x -ℤ origin.x) (pos y -ℤ origin.y) under) (f x y) (take (i + 1) ts) else f x y)
  by x y false = refl
  by x y true = sym (ap (λ us. fold (λ under s. drawn16 old s (pos x -ℤ origin.x) (pos y -ℤ origin.y) under) (f x y) us) longer
      ∙ fold-append (λ under s. drawn16 old s (pos x -ℤ origin.x) (pos y -ℤ origin.y) under) (f x y) (take i ts) (t ∷ []))

-- the centres of one triangle more, on a card of the same clip
pub centres_more : (old mid : Contents) (origin : Point) (ts : List Triangle) (i : ℕ) (t : Triangle) → OnlyDrawn old mid → slice_get ts i ≡ Some t
    → covered16 old origin (take (i + 1) ts) ≡ covered16 old origin (take i ts) + places16 t mid.clip origin
centres_more old mid origin ts i t only is =
    ap (λ us. covered16 old origin us) longer
    ∙ fold-append (λ n u. n + places16 u old.clip origin) 0 (take i ts) (t ∷ [])
    ∙ ap (λ (v : Contents). covered16 old origin (take i ts) + places16 t v.clip origin) (sym only)
  where
    longer : take (i + 1) ts ≡ take i ts ++ (t ∷ [])
    longer = rw (add-one i) (take-suc ts i t (slice_get_within ts i t is) ∙ ap (λ u. take i ts ++ (u ∷ [])) (get_or_from_slice_get ts i t t is))

-- and those of all
pub centres_all : (v : Contents) (origin : Point) (ts : List Triangle) (i : ℕ) → length ts ≤ i → covered16 v origin (take i ts) ≡ covered16 v origin ts
centres_all v origin ts i all = ap (λ us. covered16 v origin us) (take_all i ts all)
