-- Places of a plane of colours and one of depths that are painted along a row.
use Rattle.std.proofs.Common.{◌≡◌, ℕ, suc, ◌+◌, ◌-◌, ◌*◌, ◌<◌, ◌≤◌, List, map, get_or, slice_set, Bool, true, false, ◌&&◌, ◌==◌, if◌then◌else◌, Option, Some, None, refl, ap, sym, ◌∙◌, arith}
use Rattle.std.proofs.lemmas.Bool.Decides.{nat_tests}
use Rattle.std.proofs.lemmas.Bool.{eqb-true}
use Rattle.std.proofs.lemmas.List.{map-set}
use Rattle.std.proofs.Math.ListN.{get_or-map}
use Rattle.dri_base.specs.declared.colour.Pixel.{Pixel}
use Rattle.dri_base.specs.declared.colour.Rgb.{Rgb}
use Rattle.dri_plane.specs.Grids.{Grid, is_place}
use Rattle.dri_plane.specs.Runs.{HoldPairs, accesses, grid, in_row, left_by, place_painted, run_accesses, run_painted}
use Rattle.dri_base.proofs.PlaneLists.{pixel_at}
use Rattle.std.proofs.lemmas.Nat.{div-mul-add, mod-mul-add, mul-add-lt}
use Rattle.dri_plane.proofs.Planes.{plane_put}
use Rattle.dri_plane.proofs.PairPlanes.{pairs_written}
use Rattle.dri_plane.specs.Alike.{pairs_same}

-- a pair that is written where it is painted
pub written_painted : (kept : Pixel → Pixel) (back : Grid Rgb) (depth : Grid ℕ) (x y : ℕ) (paint : ℕ → Pixel → Option Pixel) (under pixel : Pixel) (f : ℕ → ℕ → Pixel) → under ≡ f x y → Some pixel ≡ paint x under
    → HoldPairs back depth (λ a b. if is_place x y a b then kept pixel else f a b) → HoldPairs back depth (place_painted kept paint x y f)
written_painted kept back depth x y paint under pixel f reads is writes =
    pairs_same back depth _ _ (λ a b. by a b (a == x) (b == y) (eqb-true a x) (eqb-true b y)) writes
  where
    by : (a b : ℕ) (p q : Bool) → (p ≡ true → a ≡ x) → (q ≡ true → b ≡ y) → (if p && q then kept pixel else f a b) ≡ (if p && q then left_by kept (paint a (f a b)) (f a b) else f a b)
    by a b true true ex ey = rw (ex refl, ey refl) (ap (λ o. left_by kept o (f x y)) (is ∙ ap (paint x) reads))
    by a b true false ex ey = refl
    by a b false q ex ey = refl

-- a pair that stays, since nothing is painted
pub stayed_painted : (kept : Pixel → Pixel) (back : Grid Rgb) (depth : Grid ℕ) (x y : ℕ) (paint : ℕ → Pixel → Option Pixel) (under : Pixel) (f : ℕ → ℕ → Pixel) → under ≡ f x y → None ≡ paint x under
    → HoldPairs back depth f → HoldPairs back depth (place_painted kept paint x y f)
stayed_painted kept back depth x y paint under f reads is holds =
    pairs_same back depth _ _ (λ a b. by a b (a == x) (b == y) (eqb-true a x) (eqb-true b y)) holds
  where
    by : (a b : ℕ) (p q : Bool) → (p ≡ true → a ≡ x) → (q ≡ true → b ≡ y) → f a b ≡ (if p && q then left_by kept (paint a (f a b)) (f a b) else f a b)
    by a b true true ex ey = rw (ex refl, ey refl) (ap (λ o. left_by kept o (f x y)) (is ∙ ap (paint x) reads))
    by a b true false ex ey = refl
    by a b false q ex ey = refl

-- the first place of a run
pub run_begins : (kept : Pixel → Pixel) (back : Grid Rgb) (depth : Grid ℕ) (paint : ℕ → Pixel → Option Pixel) (y left : ℕ) (f : ℕ → ℕ → Pixel) → HoldPairs back depth (place_painted kept paint left y f) → HoldPairs back depth (run_painted kept paint y left (left + 1) f)
run_begins kept back depth paint y left f holds =
    pairs_same back depth _ _ (λ a b. ap (λ here. if here then left_by kept (paint a (f a b)) (f a b) else f a b) (one a b)) holds
  where
    one : (a b : ℕ) → is_place left y a b ≡ in_row y left (left + 1) a b
    one a b = grind (arith, nat_tests)

-- and one place more
pub run_more : (kept : Pixel → Pixel) (back : Grid Rgb) (depth : Grid ℕ) (paint : ℕ → Pixel → Option Pixel) (y left x : ℕ) (f : ℕ → ℕ → Pixel) → left ≤ x
    → HoldPairs back depth (place_painted kept paint x y (run_painted kept paint y left x f)) → HoldPairs back depth (run_painted kept paint y left (x + 1) f)
run_more kept back depth paint y left x f from holds =
    pairs_same back depth _ _ (λ a b. by a b (in_row y left x a b) (is_place x y a b) (joined a b) (apart a b)) holds
  where
    joined : (a b : ℕ) (drawn under : Pixel) → (if in_row y left x a b then (if is_place x y a b then under else drawn) else (if is_place x y a b then drawn else under)) ≡ (if in_row y left (x + 1) a b then drawn else under)
    joined a b drawn under = grind (arith, nat_tests)

    apart : (a b : ℕ) → (in_row y left x a b && is_place x y a b) ≡ false
    apart a b = grind (arith, nat_tests)

    drawn_on : (a b : ℕ) → Pixel → Pixel
    drawn_on a b under = left_by kept (paint a under) under

    by : (a b : ℕ) (p q : Bool) → ((drawn under : Pixel) → (if p then (if q then under else drawn) else (if q then drawn else under)) ≡ (if in_row y left (x + 1) a b then drawn else under)) → (p && q) ≡ false
        → (if q then drawn_on a b (if p then drawn_on a b (f a b) else f a b) else (if p then drawn_on a b (f a b) else f a b)) ≡ (if in_row y left (x + 1) a b then drawn_on a b (f a b) else f a b)
    by a b true true joined apart = cc
    by a b true false joined apart = joined _ _
    by a b false true joined apart = joined _ _
    by a b false false joined apart = joined _ _

-- the accesses of the first place of a run
pub accesses_begin : (paint : ℕ → Pixel → Option Pixel) (y left : ℕ) (f : ℕ → ℕ → Pixel) → run_accesses paint y left (left + 1 - left) f ≡ accesses (paint left (f left y))
accesses_begin paint y left f =
    let one : left + 1 - left ≡ suc 0 = omega arith in
    let here : left + 0 ≡ left = omega arith in
    let alone : (n : ℕ) → 0 + n ≡ n = λ n. omega arith in
    ap (λ n. run_accesses paint y left n f) one ∙ alone (accesses (paint (left + 0) (f (left + 0) y))) ∙ ap (λ k. accesses (paint k (f k y))) here

-- and of one place more, which the run so far left as it was
pub accesses_more : (kept : Pixel → Pixel) (paint : ℕ → Pixel → Option Pixel) (y left x : ℕ) (f : ℕ → ℕ → Pixel) → left ≤ x
    → run_accesses paint y left (x + 1 - left) f ≡ run_accesses paint y left (x - left) f + accesses (paint x (run_painted kept paint y left x f x y))
accesses_more kept paint y left x f from =
    let more : x + 1 - left ≡ suc (x - left) = omega (arith, from) in
    let there : left + (x - left) ≡ x = omega (arith, from) in
    let apart : in_row y left x x y ≡ false = grind (arith, nat_tests) in
    let so_far : ℕ = run_accesses paint y left (x - left) f in
    ap (λ n. run_accesses paint y left n f) more ∙ ap (λ k. so_far + accesses (paint k (f k y))) there
    ∙ ap (λ b. so_far + accesses (paint x (if b then left_by kept (paint x (f x y)) (f x y) else f x y))) (sym apart)

-- ---- two lists of rows, where the colours of one are shown by `all`
-- what is shown of colours of which one is written
all_set : {A : Type 0} (all : List A → List Rgb) (shown : A → Rgb) → ((l : List A) → all l ≡ map shown l) → (l : List A) (k : ℕ) (v : A) → all (slice_set l k v) ≡ slice_set (all l) k (shown v)
all_set all shown each l k v = each (slice_set l k v) ∙ map-set shown l k v ∙ ap (λ m. slice_set m k (shown v)) (sym (each l))

-- and what is shown of one
all_get : {A : Type 0} (all : List A → List Rgb) (shown : A → Rgb) → ((l : List A) → all l ≡ map shown l) → (l : List A) (k : ℕ) (d : A) → shown (get_or l k d) ≡ get_or (all l) k (shown d)
all_get all shown each l k d = sym (ap (λ m. get_or m k (shown d)) (each l) ∙ get_or-map shown l k d)

-- the pair at a place of them
pub pair_listed : {A : Type 0} (all : List A → List Rgb) (shown : A → Rgb) → ((l : List A) → all l ≡ map shown l)
    → (width height : ℕ) (colours : List A) (depths : List ℕ) (f : ℕ → ℕ → Pixel) (x y place : ℕ) (c : A) (z : ℕ) → place ≡ y * width + x → x < width → y < height
    → HoldPairs (grid width height (all colours)) (grid width height depths) f → record { colour = shown (get_or colours place c); depth = get_or depths place z } ≡ f x y
pair_listed all shown each width height colours depths f x y place c z at column row holds = λ i. record { colour = one i; depth = other i } where
  inside : y * width + x < width * height
  inside = mul-add-lt y width x height row column

  one : shown (get_or colours place c) ≡ (f x y).colour
  one = all_get all shown each colours place c ∙ ap (λ k. get_or (all colours) k (shown c)) at ∙ ap (λ l. get_or l (y * width + x) (shown c)) holds.colours ∙ pixel_at width (λ a b. (f a b).colour) (width * height) (y * width + x) (shown c) inside
      ∙ (λ i. (f (mod-mul-add y width x column i) (div-mul-add y width x column i)).colour)

  other : get_or depths place z ≡ (f x y).depth
  other = ap (λ k. get_or depths k z) at ∙ ap (λ l. get_or l (y * width + x) z) holds.depths ∙ pixel_at width (λ a b. (f a b).depth) (width * height) (y * width + x) z inside
      ∙ (λ i. (f (mod-mul-add y width x column i) (div-mul-add y width x column i)).depth)

-- a pair that is written there
pub pair_set : {A : Type 0} (all : List A → List Rgb) (shown : A → Rgb) → ((l : List A) → all l ≡ map shown l)
    → (width height : ℕ) (colours : List A) (depths : List ℕ) (f : ℕ → ℕ → Pixel) (x y place : ℕ) (v : A) (z : ℕ) → place ≡ y * width + x → x < width → y < height
    → HoldPairs (grid width height (all colours)) (grid width height depths) f
    → HoldPairs (grid width height (all (slice_set colours place v))) (grid width height (slice_set depths place z)) (λ a b. if is_place x y a b then record { colour = shown v; depth = z } else f a b)
pair_set all shown each width height colours depths f x y place v z at column row holds =
    pairs_written (grid width height (all colours)) (grid width height (all (slice_set colours place v))) (grid width height depths) (grid width height (slice_set depths place z)) (is_place x y) (record { colour = shown v; depth = z }) f (refl, refl) (refl, refl)
    (λ g was. all_set all shown each colours place v ∙ ap (λ k. slice_set (all colours) k (shown v)) at ∙ ap (λ l. slice_set l (y * width + x) (shown v)) was ∙ plane_put width height g x y (shown v) column row)
    (λ g was. ap (λ k. slice_set depths k z) at ∙ ap (λ l. slice_set l (y * width + x) z) was ∙ plane_put width height g x y z column row)
    holds
