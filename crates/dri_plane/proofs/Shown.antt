-- What a plane shows after a call that changes what its places keep.
use Rattle.std.proofs.Common.{◌≡◌, ℕ, ◌+◌, ◌*◌, ◌<◌, List, map, length, get_or, Bool, true, false, if◌then◌else◌, refl, sym, ap, ◌∙◌}
use Rattle.std.proofs.Math.ListN.{get_or-map}
use Rattle.std.proofs.lemmas.List.{length-map}
use Rattle.std.proofs.lemmas.Nat.{div-add-mod'}
use Rattle.std.proofs.lemmas.Option.{same_Some}
use Rattle.dri_base.specs.declared.colour.Rgb.{Rgb}
use Rattle.dri_base.specs.Planes.{first_pixels, plane, at}
use Rattle.dri_base.proofs.PlaneLists.{length-first_pixels, pixel_at, pixels_by_all, plane_at, plane_same}
use Rattle.dri_plane.specs.Formats.{shown_by}
use Rattle.dri_plane.specs.Grids.{Grid, Becomes}

-- what a list of rows has at each place
abbrev own : {A : Type 0} → ℕ → A → List A → ℕ → ℕ → A
own width d l x y = get_or l (y * width + x) d

-- a list is the plane of what it has
owned : {A : Type 0} (width height : ℕ) (d : A) (l : List A) → length l ≡ width * height → l ≡ plane width height (own width d l)
owned width height d l len = pixels_by_all width (own width d l) (width * height) l d len (λ k within. ap (λ i. get_or l i d) (sym (div-add-mod' k width)))

-- a part of each pixel of a plane
mapped : {A B : Type 0} (part : A → B) (width n : ℕ) (f : ℕ → ℕ → A) → map part (first_pixels width f n) ≡ first_pixels width (λ x y. part (f x y)) n
mapped part width n f =
    pixels_by_all width (λ x y. part (f x y)) n (map part (first_pixels width f n)) (part (f 0 0)) (length-map (first_pixels width f n) part ∙ length-first_pixels width f n)
    (λ k within. get_or-map part (first_pixels width f n) k (f 0 0) ∙ ap part (pixel_at width f n k (f 0 0) within))

-- what one plane has at a place
plane_tells : {A : Type 0} (width height : ℕ) (f g : ℕ → ℕ → A) (x y : ℕ) → x < width → y < height → plane width height f ≡ plane width height g → f x y ≡ g x y
plane_tells width height f g x y column row same =
    same_Some (f x y) (g x y) (sym (plane_at width height f x y column row) ∙ ap (λ l. at width l x y) same ∙ plane_at width height g x y column row)

-- what is kept is changed, and so is what is shown, where that change asks only for what the plane shows
pub shown_becomes : {A : Type 0} (all : List A → List Rgb) (shown : A → Rgb) → ((l : List A) → all l ≡ map shown l) → (d : A) (old new : Grid A) (change : (ℕ → ℕ → A) → ℕ → ℕ → A) (changed : (ℕ → ℕ → Rgb) → ℕ → ℕ → Rgb)
    → ((g : ℕ → ℕ → A) (x y : ℕ) → shown (change g x y) ≡ changed (λ a b. shown (g a b)) x y)
    → ((f g : ℕ → ℕ → Rgb) → ((x y : ℕ) → x < old.width → y < old.height → f x y ≡ g x y) → (x y : ℕ) → x < old.width → y < old.height → changed f x y ≡ changed g x y)
    → Becomes old new change → Becomes (shown_by all old) (shown_by all new) changed
shown_becomes {A = A} all shown each d old new change changed natural local becomes = λ f shows.
    let width = old.width in
    let height = old.height in
    let has : ℕ → ℕ → A = own width d old.pixels in
    let len : length old.pixels ≡ width * height = sym (ap length (each old.pixels) ∙ length-map old.pixels shown) ∙ ap length shows ∙ length-first_pixels width f (width * height) in
    let is : old.pixels ≡ plane width height has = owned width height d old.pixels len in
    let seen : plane width height (λ x y. shown (has x y)) ≡ plane width height f = sym (mapped shown width (width * height) has) ∙ ap (map shown) (sym is) ∙ sym (each old.pixels) ∙ shows in
    each new.pixels ∙ ap (map shown) (becomes has is) ∙ mapped shown width (width * height) (change has)
    ∙ plane_same width height (λ x y. shown (change has x y)) (changed f)
    (λ x y lx ly. natural has x y ∙ local (λ a b. shown (has a b)) f (λ a b la lb. plane_tells width height (λ i j. shown (has i j)) f a b la lb seen) x y lx ly)

-- one value is written at some places
pub shown_filled : {A : Type 0} (all : List A → List Rgb) (shown : A → Rgb) → ((l : List A) → all l ≡ map shown l) → (old new : Grid A) (places : ℕ → ℕ → Bool) (value : A)
    → Becomes old new (λ g x y. if places x y then value else g x y) → Becomes (shown_by all old) (shown_by all new) (λ g x y. if places x y then shown value else g x y)
shown_filled {A = A} all shown each old new places value becomes =
    shown_becomes all shown each value old new (λ g x y. if places x y then value else g x y) (λ g x y. if places x y then shown value else g x y)
    (λ g x y. by (places x y) (g x y)) (λ f g same x y lx ly. ap (λ (c : Rgb). if places x y then shown value else c) (same x y lx ly)) becomes
  where
    by : (b : Bool) (other : A) → shown (if b then value else other) ≡ (if b then shown value else shown other)
    by true other = refl
    by false other = refl

-- each place keeps one value
pub shown_even : {A : Type 0} (all : List A → List Rgb) (shown : A → Rgb) → ((l : List A) → all l ≡ map shown l) → (g : Grid A) (value : A) → g.pixels ≡ plane g.width g.height (λ x y. value)
    → all g.pixels ≡ plane g.width g.height (λ x y. shown value)
shown_even all shown each g value is = each g.pixels ∙ ap (map shown) is ∙ mapped shown g.width (g.width * g.height) (λ x y. value)
