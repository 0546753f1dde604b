-- A pixel of a line as a small triangle.
use Rattle.std.proofs.Common.{◌≡◌, ℕ, ◌+◌, ◌/◌, ◌≤◌, [], ◌∷◌, Bool, true, false, not, ◌&&◌, ◌||◌, cond, if◌then◌else◌, Option, Some, None, ℤ, pos, ◌+ℤ◌, ◌-ℤ◌, ◌*ℤ◌, int_lt, nat_abs, length, refl, sym, ap, ◌∙◌, arith}
use Rattle.std.specs.Ordering.{int_eq}
use Rattle.std.proofs.lemmas.Int.{ints}
use Rattle.dri_base.specs.declared.colour.Rgba.{Rgba}
use Rattle.dri_base.specs.declared.colour.Pixel.{Pixel}
use Rattle.dri_base.specs.declared.shape.ClipRect.{ClipRect}
use Rattle.dri_base.specs.declared.shape.Point.{Point}
use Rattle.dri_base.specs.declared.shape.Triangle.{Triangle}
use Rattle.dri_base.specs.declared.shape.Vertex.{Vertex}
use Rattle.dri_base.specs.declared.state.Shade.{Shade}
use Rattle.dri_base.specs.declared.state.Shade.TheVariants as Shade_is
use Rattle.dri_base.specs.declared.state.TexMode.{TexMode}
use Rattle.dri_base.specs.declared.state.TexMode.TheVariants as Mode_is
use Rattle.dri_base.specs.declared.state.Wrap.{Wrap}
use Rattle.dri_base.specs.Coverage.{area, centre, corner, covers, edge, is_top_left, is_within, quantity, turned, weighed}
use Rattle.dri_base.specs.Fragments.{Rules, in_scissor, passes, shaded, with_texel, written}
use Rattle.dri_base.specs.Texels.{Image}
use Rattle.dri_raster.specs.Walks.{at_least_zero}
use Rattle.dri_texel.specs.Pixels.{coloured, texel_used}
use Rattle.dri_card16.specs.declared.line.Line.{Line}
use Rattle.dri_walk.specs.Clips.{covered_places}
use Rattle.dri_card16.specs.Dots.{dot, vertex_in}
use Rattle.dri_walk.specs.Drawings.{fragment_kept}
use Rattle.dri_card16.specs.Lines.{along, colour_in, is_on, left_on, value_in}

-- ---- its edges
same_place : (k u : ℤ) → (k +ℤ u) -ℤ (k +ℤ u) ≡ pos 0
same_place k u = omega (arith, ints)

area_is : (v : Vertex) (x y : ℤ) → area (dot v x y) ≡ pos 9
area_is v x y =
    λ i. (across (pos 16 *ℤ x) i *ℤ across (pos 16 *ℤ y) i) -ℤ (same_place (pos 16 *ℤ y) (pos 7) i *ℤ same_place (pos 16 *ℤ x) (pos 7) i)
  where
    across : (k : ℤ) → (k +ℤ pos 10) -ℤ (k +ℤ pos 7) ≡ pos 3
    across k = omega (arith, ints)

one : (k : ℤ) → (k +ℤ pos 8) -ℤ (k +ℤ pos 7) ≡ pos 1
one k = omega (arith, ints)

two_back : (k : ℤ) → (k +ℤ pos 8) -ℤ (k +ℤ pos 10) ≡ pos 0 -ℤ pos 2
two_back k = omega (arith, ints)

three : (k : ℤ) → (k +ℤ pos 10) -ℤ (k +ℤ pos 7) ≡ pos 3
three k = omega (arith, ints)

three_back : (k : ℤ) → (k +ℤ pos 7) -ℤ (k +ℤ pos 10) ≡ pos 0 -ℤ pos 3
three_back k = omega (arith, ints)

ab_is : (v : Vertex) (x y : ℤ) → edge (corner (dot v x y).a) (corner (dot v x y).b) (centre x y) ≡ pos 3
ab_is v x y = λ i. (three (pos 16 *ℤ x) i *ℤ one (pos 16 *ℤ y) i) -ℤ (same_place (pos 16 *ℤ y) (pos 7) i *ℤ one (pos 16 *ℤ x) i)

bc_is : (v : Vertex) (x y : ℤ) → edge (corner (dot v x y).b) (corner (dot v x y).c) (centre x y) ≡ pos 3
bc_is v x y = λ i. (three_back (pos 16 *ℤ x) i *ℤ one (pos 16 *ℤ y) i) -ℤ (three (pos 16 *ℤ y) i *ℤ two_back (pos 16 *ℤ x) i)

ca_is : (v : Vertex) (x y : ℤ) → edge (corner (dot v x y).c) (corner (dot v x y).a) (centre x y) ≡ pos 3
ca_is v x y = λ i. (same_place (pos 16 *ℤ x) (pos 7) i *ℤ two_back (pos 16 *ℤ y) i) -ℤ (three_back (pos 16 *ℤ y) i *ℤ one (pos 16 *ℤ x) i)

-- it isn't turned, covers its centre, and has its quantities there
stays : (v : Vertex) (x y : ℤ) → turned (dot v x y) ≡ dot v x y
stays v x y = ap (λ n. if int_lt n (pos 0) then record { a = (dot v x y).a; b = (dot v x y).c; c = (dot v x y).b } else dot v x y) (area_is v x y)

within : (a b p : Point) → edge a b p ≡ pos 3 → is_within a b p ≡ true
within a b p e = ap (λ n. int_lt (pos 0) n || (int_eq n (pos 0) && is_top_left a b)) e

pub dot_covers : (v : Vertex) (x y : ℤ) → covers (dot v x y) x y ≡ true
dot_covers v x y =
    (λ i. not (int_eq (area_is v x y i) (pos 0)) && (is_within (corner (stays v x y i).a) (corner (stays v x y i).b) (centre x y) && (is_within (corner (stays v x y i).b) (corner (stays v x y i).c) (centre x y) && is_within (corner (stays v x y i).c) (corner (stays v x y i).a) (centre x y))))
    ∙ (λ i. within (corner (dot v x y).a) (corner (dot v x y).b) (centre x y) (ab_is v x y) i && (within (corner (dot v x y).b) (corner (dot v x y).c) (centre x y) (bc_is v x y) i && within (corner (dot v x y).c) (corner (dot v x y).a) (centre x y) (ca_is v x y) i))

ninth : (k : ℕ) → nat_abs (((pos 3 *ℤ pos k) +ℤ (pos 3 *ℤ pos k)) +ℤ (pos 3 *ℤ pos k)) / 9 ≡ k
ninth k = omega (arith, ints)

pub dot_quantity : (v : Vertex) (x y : ℤ) (value : Vertex → ℕ) (k : ℕ) → value (dot v x y).a ≡ k → value (dot v x y).b ≡ k → value (dot v x y).c ≡ k → quantity (dot v x y) value x y ≡ k
dot_quantity v x y value k ea eb ec =
    (λ i. nat_abs (weighed (stays v x y i) value (centre x y)) / nat_abs (area_is v x y i))
    ∙ (λ i. nat_abs (((bc_is v x y i *ℤ pos (ea i)) +ℤ (ca_is v x y i *ℤ pos (eb i))) +ℤ (ab_is v x y i *ℤ pos (ec i))) / 9)
    ∙ ninth k

-- ---- what it leaves
textured_is : (mode : TexMode) (image : Option Image) (wrap : Wrap) (t : Triangle) (x y : ℤ) (c : Rgba)
    → with_texel mode image wrap t x y c ≡ coloured mode (texel_used mode image wrap (quantity t (λ v. v.s) x y) (quantity t (λ v. v.t) x y)) c
textured_is Mode_is.Off None wrap t x y c = refl
textured_is Mode_is.Off (Some image) wrap t x y c = refl
textured_is Mode_is.Replace None wrap t x y c = refl
textured_is Mode_is.Modulate None wrap t x y c = refl
textured_is Mode_is.Replace (Some image) wrap t x y c = refl
textured_is Mode_is.Modulate (Some image) wrap t x y c = refl

shaded_is : (shade : Shade) (v : Vertex) (x y : ℤ) → shaded shade (dot v x y) x y ≡ v.colour
shaded_is Shade_is.Flat v x y = refl
shaded_is Shade_is.Smooth v x y = λ i. record {
  r = dot_quantity v x y (λ u. u.colour.r) v.colour.r refl refl refl i;
  g = dot_quantity v x y (λ u. u.colour.g) v.colour.g refl refl refl i;
  b = dot_quantity v x y (λ u. u.colour.b) v.colour.b refl refl refl i;
  a = dot_quantity v x y (λ u. u.colour.a) v.colour.a refl refl refl i;
}

colours_is : (r : Rules) (image : Option Image) (v : Vertex) (x y : ℤ) → with_texel r.tex_mode image r.wrap (dot v x y) x y (shaded r.shade (dot v x y) x y) ≡ coloured r.tex_mode (texel_used r.tex_mode image r.wrap v.s v.t) v.colour
colours_is r image v x y =
    textured_is r.tex_mode image r.wrap (dot v x y) x y (shaded r.shade (dot v x y) x y)
    ∙ (λ i. coloured r.tex_mode (texel_used r.tex_mode image r.wrap (dot_quantity v x y (λ u. u.s) v.s refl refl refl i) (dot_quantity v x y (λ u. u.t) v.t refl refl refl i)) (shaded_is r.shade v x y i))

-- the pixel rule for a dot is that of its vertex
vertex_left : (kept : Pixel → Pixel) (r : Rules) (image : Option Image) (v : Vertex) (x y : ℤ) (under : Pixel)
    → fragment_kept kept r image (dot v x y) x y under
    ≡ (if true && (in_scissor r.scissor x y && passes r.depth_func v.z under.depth) then kept (written r (coloured r.tex_mode (texel_used r.tex_mode image r.wrap v.s v.t) v.colour) v.z under) else under)
vertex_left kept r image v x y under =
    λ i. if dot_covers v x y i && (in_scissor r.scissor x y && passes r.depth_func (dot_quantity v x y (λ u. u.z) v.z refl refl refl i) under.depth)
    then kept (written r (colours_is r image v x y i) (dot_quantity v x y (λ u. u.z) v.z refl refl refl i) under)
    else under

-- and that of its line
pub dot_left : (kept : Pixel → Pixel) (r : Rules) (image : Option Image) (l : Line) (x y : ℤ) (under : Pixel) → is_on l x y ≡ true
    → fragment_kept kept r image (dot (vertex_in r.shade l (along l x y)) x y) x y under ≡ left_on kept r image l x y under
dot_left kept r image l x y under on =
    vertex_left kept r image (vertex_in r.shade l (along l x y)) x y under
    ∙ sym (λ i. if on i && (in_scissor r.scissor x y && passes r.depth_func (value_in l (λ v. v.z) (along l x y)) under.depth)
    then kept (written r (coloured r.tex_mode (texel_used r.tex_mode image r.wrap (value_in l (λ v. v.s) (along l x y)) (value_in l (λ v. v.t) (along l x y))) (colour_in r.shade l (along l x y))) (value_in l (λ v. v.z) (along l x y)) under)
    else under)

-- ---- a rectangle of one place
pub one_place : (t : Triangle) (r : ClipRect) (o : Point) → r.x2 ≡ r.x1 + 1 → r.y2 ≡ r.y1 + 1 → covered_places t r o ≤ 1
one_place t r o ex ey = rw (ap at_least_zero (wide r.x1 r.x2 o.x ex), ap at_least_zero (wide r.y1 r.y2 o.y ey)) (most (covers t (pos r.x1 -ℤ o.x) (pos r.y1 -ℤ o.y))) where
  wide : (a b : ℕ) (k : ℤ) → b ≡ a + 1 → (pos b -ℤ k) -ℤ (pos a -ℤ k) ≡ pos 1
  wide a b k e = omega (arith, ints)

  most : (c : Bool) → length {A = Point} (cond c (record { x = pos r.x1 -ℤ o.x; y = pos r.y1 -ℤ o.y } ∷ []) []) ≤ 1
  most true = omega arith
  most false = omega arith
