-- Places of a surface that are drawn one after another.
use Rattle.std.proofs.Common.{◌≡◌, ℕ, ◌+◌, ◌≤◌, Bool, true, false, ◌&&◌, ◌==◌, nat_le, nat_lt, if◌then◌else◌, ℤ, pos, ◌-ℤ◌, refl, sym, ap, arith}
use Rattle.std.proofs.lemmas.Bool.Decides.{nat_tests}
use Rattle.dri_base.specs.declared.colour.Pixel.{Pixel}
use Rattle.dri_base.specs.declared.colour.Rgba.{Rgba}
use Rattle.dri_base.specs.declared.shape.ClipRect.{ClipRect}
use Rattle.dri_base.specs.declared.shape.Point.{Point}
use Rattle.dri_base.specs.declared.shape.Triangle.{Triangle}
use Rattle.dri_base.specs.declared.state.Blend.{Blend}
use Rattle.dri_base.specs.Coverage.{covers}
use Rattle.dri_base.specs.Planes.{in_rect}
use Rattle.dri_walk.specs.declared.drawing.Drawing.{Drawing}
use Rattle.dri_walk.specs.Clips.{HoldSame}
use Rattle.dri_walk.specs.Drawings.{painted, pair_by}
use Rattle.dri_walk.specs.Surfaces.{PairsBecome, drawn_at, in_row, left_by}

-- a surface that holds pairs holds those that are equal at each place
abbrev pub Alike : {S : Type 0} → (S → (ℕ → ℕ → Pixel) → Type 0) → Type 0
Alike {S = S} holds = (s : S) (f g : ℕ → ℕ → Pixel) → ((x y : ℕ) → f x y ≡ g x y) → holds s f → holds s g

-- one change, said otherwise
pub becomes_alike : {S : Type 0} (holds : S → (ℕ → ℕ → Pixel) → Type 0) → Alike holds → (old new : S) (one other : (ℕ → ℕ → Pixel) → ℕ → ℕ → Pixel)
    → ((f : ℕ → ℕ → Pixel) (a b : ℕ) → one f a b ≡ other f a b) → PairsBecome holds old new one → PairsBecome holds old new other
becomes_alike holds alike old new one other same becomes f h = alike new (one f) (other f) (same f) (becomes f h)

-- one change after another
pub becomes_twice : {S : Type 0} (holds : S → (ℕ → ℕ → Pixel) → Type 0) → Alike holds → (old mid new : S) (first second both : (ℕ → ℕ → Pixel) → ℕ → ℕ → Pixel)
    → PairsBecome holds old mid first → PairsBecome holds mid new second → ((f : ℕ → ℕ → Pixel) (a b : ℕ) → second (first f) a b ≡ both f a b) → PairsBecome holds old new both
becomes_twice holds alike old mid new first second both one two same f h = alike new (second (first f)) (both f) (same f) (two (first f) (one f h))

-- no place is drawn
pub none_drawn : {S : Type 0} (holds : S → (ℕ → ℕ → Pixel) → Type 0) → Alike holds → (surface : S) (places : ℕ → ℕ → Bool) (origin : Point) (drawing : ℤ → ℤ → Pixel → Pixel)
    → ((a b : ℕ) → places a b ≡ false) → PairsBecome holds surface surface (drawn_at places origin drawing)
none_drawn holds alike surface places origin drawing none f h =
    alike surface f _ (λ a b. sym (ap (λ here. if here then drawing (pos a -ℤ origin.x) (pos b -ℤ origin.y) (f a b) else f a b) (none a b))) h

-- places that are drawn after others
more_drawn : {S : Type 0} (holds : S → (ℕ → ℕ → Pixel) → Type 0) → Alike holds → (old mid new : S) (places more all : ℕ → ℕ → Bool) (origin : Point) (drawing : ℤ → ℤ → Pixel → Pixel)
    → PairsBecome holds old mid (drawn_at places origin drawing) → PairsBecome holds mid new (drawn_at more origin drawing)
    → ((a b : ℕ) (drawn kept : Pixel) → (if places a b then (if more a b then kept else drawn) else (if more a b then drawn else kept)) ≡ (if all a b then drawn else kept))
    → ((a b : ℕ) → (places a b && more a b) ≡ false)
    → PairsBecome holds old new (drawn_at all origin drawing)
more_drawn holds alike old mid new places more all origin drawing one two joined apart =
    becomes_twice holds alike old mid new _ _ _ one two (λ f a b. by f a b (places a b) (more a b) (joined a b) (apart a b))
  where
    by : (f : ℕ → ℕ → Pixel) (a b : ℕ) (p q : Bool) → ((drawn kept : Pixel) → (if p then (if q then kept else drawn) else (if q then drawn else kept)) ≡ (if all a b then drawn else kept)) → (p && q) ≡ false
        → (if q then drawing (pos a -ℤ origin.x) (pos b -ℤ origin.y) (if p then drawing (pos a -ℤ origin.x) (pos b -ℤ origin.y) (f a b) else f a b) else (if p then drawing (pos a -ℤ origin.x) (pos b -ℤ origin.y) (f a b) else f a b))
        ≡ (if all a b then drawing (pos a -ℤ origin.x) (pos b -ℤ origin.y) (f a b) else f a b)
    by f a b true true joined apart = grind (arith, apart)
    by f a b true false joined apart = joined _ _
    by f a b false true joined apart = joined _ _
    by f a b false false joined apart = joined _ _

-- the rows of a rectangle before y
abbrev pub rows_before : ClipRect → ℕ → ℕ → ℕ → Bool
rows_before r y a b = (nat_le r.x1 a && nat_lt a r.x2) && (nat_le r.y1 b && nat_lt b y)

-- and y
pub rows_more : {S : Type 0} (holds : S → (ℕ → ℕ → Pixel) → Type 0) → Alike holds → (old mid new : S) (r : ClipRect) (y : ℕ) (origin : Point) (drawing : ℤ → ℤ → Pixel → Pixel) → r.y1 ≤ y
    → PairsBecome holds old mid (drawn_at (rows_before r y) origin drawing) → PairsBecome holds mid new (drawn_at (in_row y r.x1 r.x2) origin drawing)
    → PairsBecome holds old new (drawn_at (rows_before r (y + 1)) origin drawing)
rows_more holds alike old mid new r y origin drawing from one two =
    more_drawn holds alike old mid new (rows_before r y) (in_row y r.x1 r.x2) (rows_before r (y + 1)) origin drawing one two (λ a b drawn kept. joined b drawn kept (nat_le r.x1 a && nat_lt a r.x2)) (λ a b. apart b (nat_le r.x1 a && nat_lt a r.x2))
  where
    joined : (b : ℕ) (drawn kept : Pixel) (across : Bool) → (if across && (nat_le r.y1 b && nat_lt b y) then (if (b == y) && across then kept else drawn) else (if (b == y) && across then drawn else kept))
        ≡ (if across && (nat_le r.y1 b && nat_lt b (y + 1)) then drawn else kept)
    joined b drawn kept across = grind (arith, nat_tests)

    apart : (b : ℕ) (across : Bool) → ((across && (nat_le r.y1 b && nat_lt b y)) && ((b == y) && across)) ≡ false
    apart b across = grind (arith, nat_tests)

-- no row is before the first
pub no_rows : (r : ClipRect) (a b : ℕ) → rows_before r r.y1 a b ≡ false
no_rows r a b = by (nat_le r.x1 a && nat_lt a r.x2) where
  by : (across : Bool) → (across && (nat_le r.y1 b && nat_lt b r.y1)) ≡ false
  by across = grind (arith, nat_tests)

-- rectangles that hold the same of what the triangle covers are drawn alike
pub held_same : (kept : Pixel → Pixel) (d : Drawing) (colours : Triangle → ℤ → ℤ → Rgba) (blend : Blend) (origin : Point) (r s : ClipRect) → HoldSame d.setup origin r s
    → (f : ℕ → ℕ → Pixel) (a b : ℕ) → drawn_at (in_rect r) origin (pair_by kept d colours blend) f a b ≡ drawn_at (in_rect s) origin (pair_by kept d colours blend) f a b
held_same kept d colours blend origin r s same f a b =
    by (in_rect r a b) (in_rect s a b) (covers d.setup (pos a -ℤ origin.x) (pos b -ℤ origin.y)) (left_by kept (painted d.depth_test d.depth_write colours blend d.setup (pos a -ℤ origin.x) (pos b -ℤ origin.y) (f a b)) (f a b)) (f a b) (same a b)
  where
    by : (p q k : Bool) (over under : Pixel) → (p && k) ≡ (q && k) → (if p then (if k then over else under) else under) ≡ (if q then (if k then over else under) else under)
    by true true k over under e = refl
    by true false true over under e = cc
    by true false false over under e = refl
    by false true true over under e = cc
    by false true false over under e = refl
    by false false k over under e = refl
