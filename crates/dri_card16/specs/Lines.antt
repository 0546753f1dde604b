-- Lines: what a card that has them draws of a triangle whose second and third vertices stand at one place.
use Rattle.std.specs.Prelude.{ℕ, zero, suc, ◌+◌, ◌/◌, ℤ, pos, ◌+ℤ◌, ◌-ℤ◌, ◌*ℤ◌, Bool, true, false, not, ◌&&◌, nat_le, int_le, int_lt, nat_abs, if◌then◌else◌, Option}
use Rattle.std.specs.Ordering.{int_eq}
use Rattle.std.specs.Int.{int_div_euclid}
use Rattle.dri_base.specs.declared.colour.Rgba.{Rgba}
use Rattle.dri_base.specs.declared.colour.Pixel.{Pixel}
use Rattle.dri_base.specs.declared.shape.ClipRect.{ClipRect}
use Rattle.dri_base.specs.declared.shape.Point.{Point}
use Rattle.dri_base.specs.declared.shape.Triangle.{Triangle}
use Rattle.dri_base.specs.declared.shape.Vertex.{Vertex}
use Rattle.dri_base.specs.declared.state.Shade.{Shade}
use Rattle.dri_base.specs.declared.state.Shade.TheVariants as Shade_is
use Rattle.dri_base.specs.Fragments.{Rules, in_scissor, passes, written}
use Rattle.dri_base.specs.Planes.{in_rect}
use Rattle.dri_base.specs.Texels.{Image}
use Rattle.dri_texel.specs.Pixels.{coloured, texel_used}
use Rattle.dri_card16.specs.declared.line.Line.{Line}

-- the triangle is a line: its second and third vertices stand at one place, and its first at another
abbrev pub is_line : Triangle → Bool
is_line t = (int_eq t.b.x t.c.x && int_eq t.b.y t.c.y) && not (int_eq t.a.x t.b.x && int_eq t.a.y t.b.y)

-- from its first vertex to its second it goes at least as far across as down
abbrev pub is_x_major : Triangle → Bool
is_x_major t = nat_le (nat_abs (t.b.y -ℤ t.a.y)) (nat_abs (t.b.x -ℤ t.a.x))

-- a vertex whose x and y change places
abbrev pub exchanged : Vertex → Vertex
exchanged v = record v { x = v.y; y = v.x }

-- the line between two vertices, which change places, with all their values, where x falls
abbrev pub rising : Bool → Rgba → Vertex → Vertex → Line
rising x_major flat a b =
    if int_lt b.x a.x then record { first = b; last = a; x_major = x_major; flat = flat } else record { first = a; last = b; x_major = x_major; flat = flat }

-- the line from a triangle's first vertex to its second, laid along x: where it is y-major, x and y are exchanged throughout; its flat colour is the third vertex's
abbrev pub line_of : Triangle → Line
line_of t = if is_x_major t then rising true t.c.colour t.a t.b else rising false t.c.colour (exchanged t.a) (exchanged t.b)

-- of two numbers that belong to x and to y, the one that belongs to the line's major axis
abbrev pub along : {A : Type 0} → Line → A → A → A
along l x y = if l.x_major then x else y

-- and the other one
abbrev pub across : {A : Type 0} → Line → A → A → A
across l x y = if l.x_major then y else x

-- the centre of column n, or of row n of a line that is y-major
abbrev pub middle : ℤ → ℤ
middle n = (pos 16 *ℤ n) +ℤ pos 8

-- the line has a pixel there: the centre isn't before its lower end, and is before its upper one
abbrev pub has_pixel : Line → ℤ → Bool
has_pixel l n = int_le l.first.x (middle n) && int_lt (middle n) l.last.x

-- and the pixel's row, or column, is the one of the line's height there, rounded down
abbrev pub row_in : Line → ℤ → ℤ
row_in l n = int_div_euclid (l.first.y +ℤ int_div_euclid ((l.last.y -ℤ l.first.y) *ℤ (middle n -ℤ l.first.x)) (l.last.x -ℤ l.first.x)) (pos 16)

-- two numbers of the ends there: each weighed by how far the other end is, by the line's length, rounded down
abbrev pub between : Line → ℕ → ℕ → ℤ → ℕ
between l u v n = nat_abs (((l.last.x -ℤ middle n) *ℤ pos u) +ℤ ((middle n -ℤ l.first.x) *ℤ pos v)) / nat_abs (l.last.x -ℤ l.first.x)

-- a quantity there
abbrev pub value_in : Line → (Vertex → ℕ) → ℤ → ℕ
value_in l value n = between l (value l.first) (value l.last) n

-- the line's own colour there: the flat one, or the quantity of each channel
abbrev pub colour_in : Shade → Line → ℤ → Rgba
colour_in Shade_is.Flat l n = l.flat
colour_in Shade_is.Smooth l n = record {
  r = value_in l (λ v. v.colour.r) n;
  g = value_in l (λ v. v.colour.g) n;
  b = value_in l (λ v. v.colour.b) n;
  a = value_in l (λ v. v.colour.a) n;
}

-- the line covers pixel (x, y)
abbrev pub is_on : Line → ℤ → ℤ → Bool
is_on l x y = has_pixel l (along l x y) && int_eq (row_in l (along l x y)) (across l x y)

-- a triangle's line covers pixel (x, y)
abbrev pub line_covers : Triangle → ℤ → ℤ → Bool
line_covers t = is_on (line_of t)

-- its quantity there
abbrev pub line_quantity : Triangle → (Vertex → ℕ) → ℤ → ℤ → ℕ
line_quantity t value x y = value_in (line_of t) value (along (line_of t) x y)

-- the line draws at the window's pixel: covered, in the scissor, and the depth function holds
abbrev pub draws_on : Rules → Line → ℤ → ℤ → ℕ → Bool
draws_on r l x y depth = is_on l x y && (in_scissor r.scissor x y && passes r.depth_func (value_in l (λ v. v.z) (along l x y)) depth)

-- the colour that is drawn there, after the texel, where there is one
abbrev pub drawn_colour : Rules → Option Image → Line → ℤ → Rgba
drawn_colour r image l n =
    coloured r.tex_mode (texel_used r.tex_mode image r.wrap (value_in l (λ v. v.s) n) (value_in l (λ v. v.t) n)) (colour_in r.shade l n)

-- what is kept of the pair that the line leaves at the window's pixel (x, y), over the pair under it
abbrev pub left_on : (Pixel → Pixel) → Rules → Option Image → Line → ℤ → ℤ → Pixel → Pixel
left_on kept r image l x y under =
    if draws_on r l x y under.depth
    then kept (written r (drawn_colour r image l (along l x y)) (value_in l (λ v. v.z) (along l x y)) under)
    else under

-- what is kept of the pair that a triangle's line leaves at the window's pixel (x, y), by the pixel rule; the pair under it where it draws nothing
abbrev pub line_fragment : (Pixel → Pixel) → Rules → Option Image → Triangle → ℤ → ℤ → Pixel → Pixel
line_fragment kept r image t = left_on kept r image (line_of t)

-- the pairs after a triangle's line, drawn so in a clip of the screen; the window's pixel is the screen's less the origin
abbrev pub after_line : (Pixel → Pixel) → Rules → Option Image → Triangle → ClipRect → Point → (ℕ → ℕ → Pixel) → ℕ → ℕ → Pixel
after_line kept r image t clip origin f x y = if in_rect clip x y then line_fragment kept r image t (pos x -ℤ origin.x) (pos y -ℤ origin.y) (f x y) else f x y

-- in column n of the screen, or row n where it is y-major, the line has a pixel in the clip
abbrev pub has_place : Line → ClipRect → Point → ℕ → Bool
has_place l clip origin n =
    has_pixel l (pos n -ℤ along l origin.x origin.y)
    && (int_le (pos (across l clip.x1 clip.y1)) (row_in l (pos n -ℤ along l origin.x origin.y) +ℤ across l origin.x origin.y)
    && int_lt (row_in l (pos n -ℤ along l origin.x origin.y) +ℤ across l origin.x origin.y) (pos (across l clip.x2 clip.y2)))

-- how many there are among the first columns, or rows, from the clip's first on
abbrev pub places_in : Line → ClipRect → Point → ℕ → ℕ
places_in l clip origin zero = 0
places_in l clip origin (suc n) = places_in l clip origin n + (if nat_le (along l clip.x1 clip.y1) n && has_place l clip origin n then 1 else 0)

-- how many places of the clip a triangle's line covers
abbrev pub line_places : Triangle → ClipRect → Point → ℕ
line_places t clip origin = places_in (line_of t) clip origin (along (line_of t) clip.x2 clip.y2)
