-- The colours of a plane are packed row by row, each row from left to right.
use Rattle.std.proofs.Common.{◌≡◌, ℕ, ◌+◌, ◌<◌, ◌≤◌, List, Bool, true, false, ◌&&◌, ◌||◌, ◌==◌, nat_lt, if◌then◌else◌, Some, refl, sym, ap, ◌∙◌, arith}
use Rattle.std.proofs.lemmas.Bool.Decides.{nat_tests}
use Rattle.std.proofs.lemmas.Option.{same_Some}
use Rattle.dri_base.specs.declared.colour.Rgb.{Rgb}
use Rattle.dri_base.specs.Planes.{at, plane}
use Rattle.dri_base.proofs.PlaneLists.{plane_at, plane_same}
use Rattle.dri_plane.specs.Grids.{Becomes, Grid, is_place}
use Rattle.dri_card16.specs.Packing.{pack}

-- a colour that is read
pub colour_read : (width height : ℕ) (colours : List Rgb) (f : ℕ → ℕ → Rgb) (x y : ℕ) (colour : Rgb) → x < width → y < height → colours ≡ plane width height f → at width colours x y ≡ Some colour → colour ≡ f x y
colour_read width height colours f x y colour column row is told =
    same_Some colour (f x y) (sym told ∙ ap (λ l. at width l x y) is ∙ plane_at width height f x y column row)

-- places before column x
before_more : (a x : ℕ) → nat_lt a (x + 1) ≡ ((a == x) || nat_lt a x)
before_more a x = grind (arith, nat_tests)

-- one column more of row y
pub column_more : (f : ℕ → ℕ → Rgb) (g : ℕ → ℕ → ℕ) (x y a b : ℕ) →
    (if is_place x y a b then pack (f x y) else (if (b == y) && nat_lt a x then pack (f a b) else g a b)) ≡ (if (b == y) && nat_lt a (x + 1) then pack (f a b) else g a b)
column_more f g x y a b = by (a == x) (b == y) (nat_lt a x) refl refl ∙ ap (λ c. if (b == y) && c then pack (f a b) else g a b) (sym (before_more a x)) where
  by : (p q r : Bool) → (a == x) ≡ p → (b == y) ≡ q → (if p && q then pack (f x y) else (if q && r then pack (f a b) else g a b)) ≡ (if q && (p || r) then pack (f a b) else g a b)
  by true true r here there =
      let column : a ≡ x = grind (arith, nat_tests, here) in
      let row : b ≡ y = grind (arith, nat_tests, there) in
      rw (column, row) refl
  by true false r here there = refl
  by false true r here there = refl
  by false false r here there = refl

-- a word more is put into row y
pub column_packed : (colours : Grid Rgb) (old mid new : Grid ℕ) (f : ℕ → ℕ → Rgb) (x y : ℕ) (colour : Rgb) (word : ℕ) → mid.width ≡ old.width → mid.height ≡ old.height → x < colours.width → y < colours.height
    → at colours.width colours.pixels x y ≡ Some colour → word ≡ pack colour → Becomes mid new (λ h a b. if is_place x y a b then word else h a b) → colours.pixels ≡ plane colours.width colours.height f
    → Becomes old mid (λ g a b. if (b == y) && nat_lt a x then pack (f a b) else g a b) → Becomes old new (λ g a b. if (b == y) && nat_lt a (x + 1) then pack (f a b) else g a b)
column_packed colours old mid new f x y colour word wide high column row told is puts shows before = λ g was.
    rw (wide, high) at (puts (λ a b. if (b == y) && nat_lt a x then pack (f a b) else g a b) (rw (wide, high) (before g was)))
    ∙ plane_same old.width old.height _ _ (λ a b la lb. ap (λ v. if is_place x y a b then v else (if (b == y) && nat_lt a x then pack (f a b) else g a b)) value ∙ column_more f g x y a b)
  where
    value : word ≡ pack (f x y)
    value = is ∙ ap pack (colour_read colours.width colours.height colours.pixels f x y colour column row shows told)

-- all of the row
pub row_packed : (old new : Grid ℕ) (f : ℕ → ℕ → Rgb) (x y : ℕ) → old.width ≤ x → Becomes old new (λ g a b. if (b == y) && nat_lt a x then pack (f a b) else g a b) → Becomes old new (λ g a b. if b == y then pack (f a b) else g a b)
row_packed old new f x y all becomes = λ g was.
    becomes g was ∙ plane_same old.width old.height _ _ (λ a b la lb. ap (λ c. if c then pack (f a b) else g a b) (by (b == y) (nat_lt a x) (grind (arith, nat_tests, la, all))))
  where
    by : (q r : Bool) → r ≡ true → (q && r) ≡ q
    by true r e = e
    by false r e = refl

-- one row more
pub row_more : (f : ℕ → ℕ → Rgb) (y a b : ℕ) → (if b == y then pack (f a b) else (if nat_lt b y then pack (f a b) else 0)) ≡ (if nat_lt b (y + 1) then pack (f a b) else 0)
row_more f y a b = by (b == y) (nat_lt b y) ∙ ap (λ c. if c then pack (f a b) else 0) (sym (before_more b y)) where
  by : (p q : Bool) → (if p then pack (f a b) else (if q then pack (f a b) else 0)) ≡ (if p || q then pack (f a b) else 0)
  by true q = refl
  by false q = refl

-- a row more is packed
pub rows_more : (colours : Grid Rgb) (mid new : Grid ℕ) (f : ℕ → ℕ → Rgb) (y : ℕ) → mid.width ≡ colours.width → mid.height ≡ colours.height → Becomes mid new (λ g a b. if b == y then pack (f a b) else g a b)
    → mid.pixels ≡ plane colours.width colours.height (λ a b. if nat_lt b y then pack (f a b) else 0) → new.pixels ≡ plane colours.width colours.height (λ a b. if nat_lt b (y + 1) then pack (f a b) else 0)
rows_more colours mid new f y wide high becomes before =
    rw (wide, high) at (becomes (λ a b. if nat_lt b y then pack (f a b) else 0) (rw (wide, high) before)) ∙ plane_same colours.width colours.height _ _ (λ a b la lb. row_more f y a b)

-- all of them
pub rows_packed : (colours : Grid Rgb) (new : Grid ℕ) (f : ℕ → ℕ → Rgb) (y : ℕ) → new.width ≡ colours.width → new.height ≡ colours.height → colours.height ≤ y
    → new.pixels ≡ plane colours.width colours.height (λ a b. if nat_lt b y then pack (f a b) else 0) → new.pixels ≡ plane new.width new.height (λ a b. pack (f a b))
rows_packed colours new f y wide high all before =
    rw (wide, high) (before ∙ plane_same colours.width colours.height _ _ (λ a b la lb. ap (λ c. if c then pack (f a b) else 0) (past b lb)))
  where
    past : (b : ℕ) → b < colours.height → nat_lt b y ≡ true
    past b lb = grind (arith, nat_tests, lb, all)
