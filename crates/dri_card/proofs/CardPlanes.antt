-- What the card's calls make of its planes.
use Rattle.std.proofs.Common.{◌≡◌, ℕ, ◌+◌, ◌≤◌, List, [], ◌∷◌, ◌++◌, take, length, fold, add-one, Bool, true, false, if◌then◌else◌, Some, pos, ◌-ℤ◌, refl, sym, ap, ◌∙◌}
use Rattle.std.proofs.lemmas.List.{take_all}
use Rattle.std.proofs.lemmas.List.Sums.{fold-append}
use Rattle.std.proofs.lemmas.Option.{get_or_from_slice_get, slice_get_within}
use Rattle.std.proofs.Math.Seq.{take-suc}
use Rattle.std.specs.Prelude.{slice_get}
use Rattle.dri_base.specs.declared.colour.Rgb.{Rgb}
use Rattle.dri_base.specs.declared.colour.Pixel.{Pixel}
use Rattle.dri_base.specs.declared.shape.Point.{Point}
use Rattle.dri_base.specs.declared.shape.Triangle.{Triangle}
use Rattle.dri_base.specs.Planes.{plane, in_rect}
use Rattle.dri_plane.specs.Grids.{Grid, Becomes}
use Rattle.dri_card.specs.Contents.{Contents, Holds}
use Rattle.dri_card.specs.Drawing.{OnlyDrawn, after_triangle, after_triangles, covered_centres, drawn}
use Rattle.dri_walk.specs.Clips.{covered_places}
use Rattle.dri_plane.specs.Alike.{pairs_same}

-- one plane, where it is known what it shows
pub shows_change : (old new : Grid Rgb) (change : (ℕ → ℕ → Rgb) → ℕ → ℕ → Rgb) (g : ℕ → ℕ → Rgb) → new.width ≡ old.width → new.height ≡ old.height → Becomes old new change
    → old.pixels ≡ plane old.width old.height g → new.pixels ≡ plane new.width new.height (change g)
shows_change old new change g wide high becomes holds = rw (wide, high) (becomes g holds)

-- the card in whose planes alone something is drawn draws alike
drawn_alike : (old mid : Contents) (origin : Point) (t : Triangle) (f : ℕ → ℕ → Pixel) (x y : ℕ) → OnlyDrawn old mid → after_triangle mid origin t f x y ≡ after_triangle old origin t f x y
drawn_alike old mid origin t f x y only = ap (λ (v : Contents). after_triangle v origin t f x y) only

-- one triangle more
pub triangles_more : (old mid new : Contents) (origin : Point) (ts : List Triangle) (i : ℕ) (t : Triangle) (f : ℕ → ℕ → Pixel) → OnlyDrawn old mid → slice_get ts i ≡ Some t
    → Holds new (after_triangle mid origin t (after_triangles old origin (take i ts) f)) → Holds new (after_triangles old origin (take (i + 1) ts) f)
triangles_more old mid new origin ts i t f only is holds = pairs_same new.back new.depth _ _ (λ x y. drawn_alike old mid origin t (after_triangles old origin (take i ts) f) x y only ∙ by x y (in_rect old.clip x y)) holds where
  longer : take (i + 1) ts ≡ take i ts ++ (t ∷ [])
  longer = rw (add-one i) (take-suc ts i t (slice_get_within ts i t is) ∙ ap (λ u. take i ts ++ (u ∷ [])) (get_or_from_slice_get ts i t t is))

  by : (x y : ℕ) (b : Bool) → (if b then drawn old t (pos x -ℤ origin.x) (pos y -ℤ origin.y) (if b then fold (λ under s. drawn old s (pos x -ℤ origin.x) (pos y -ℤ origin.y) under) (f x y) (take i ts) else f x y) else (if b then fold (λ under s. drawn old s (pos x -ℤ origin.x) (pos y -ℤ origin.y) under) (f x y) (take i ts) else f x y))
      ≡ (if b then fold (λ under s. drawn old s (pos x -ℤ origin.x) (pos y -ℤ origin.y) under) (f x y) (take (i + 1) ts) else f x y)
  by x y false = refl
  by x y true = sym (ap (λ us. fold (λ under s. drawn old s (pos x -ℤ origin.x) (pos y -ℤ origin.y) under) (f x y) us) longer
      ∙ fold-append (λ under s. drawn old s (pos x -ℤ origin.x) (pos y -ℤ origin.y) under) (f x y) (take i ts) (t ∷ []))

-- planes alone that are drawn on twice
pub drawn_twice : (old mid new : Contents) → OnlyDrawn old mid → OnlyDrawn mid new → OnlyDrawn old new
drawn_twice old mid new first second = second ∙ ap (λ (v : Contents). record v { back = new.back; depth = new.depth }) first

-- the centres of one triangle more, on a card of the same clip
pub centres_more : (old mid : Contents) (origin : Point) (ts : List Triangle) (i : ℕ) (t : Triangle) → OnlyDrawn old mid → slice_get ts i ≡ Some t
    → covered_centres old origin (take (i + 1) ts) ≡ covered_centres old origin (take i ts) + covered_places t mid.clip origin
centres_more old mid origin ts i t only is =
    ap (λ us. covered_centres old origin us) longer
    ∙ fold-append (λ n u. n + covered_places u old.clip origin) 0 (take i ts) (t ∷ [])
    ∙ ap (λ (v : Contents). covered_centres old origin (take i ts) + covered_places t v.clip origin) (sym only)
  where
    longer : take (i + 1) ts ≡ take i ts ++ (t ∷ [])
    longer = rw (add-one i) (take-suc ts i t (slice_get_within ts i t is) ∙ ap (λ u. take i ts ++ (u ∷ [])) (get_or_from_slice_get ts i t t is))

-- and those of all
pub centres_all : (v : Contents) (origin : Point) (ts : List Triangle) (i : ℕ) → length ts ≤ i → covered_centres v origin (take i ts) ≡ covered_centres v origin ts
centres_all v origin ts i all = ap (λ us. covered_centres v origin us) (take_all i ts all)
