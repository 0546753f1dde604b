-- Rectangles of a grid that have no place in common have at most as many pixels as the grid.
use Rattle.std.proofs.Common.{◌≡◌, ℕ, zero, suc, ◌+◌, ◌-◌, ◌*◌, ◌<◌, ◌≤◌, List, [], ◌∷◌, get_or, min, Bool, true, false, ◌&&◌, ◌||◌, nat_le, nat_lt, if◌then◌else◌, All, refl, sym, ◌∙◌, ap, inl, inr, arith}
use Rattle.std.specs.Prelude.{AllPairs, ◌⊎◌}
use Rattle.std.specs.List.{list_any, sum_by}
use Rattle.std.proofs.lemmas.List.Sums.{sum_by-cons}
use Rattle.std.proofs.lemmas.Bool.{true≢false, cases_eq}
use Rattle.std.proofs.lemmas.Bool.Decides.{nat_tests}
use Rattle.dri_base.specs.Planes.{in_rect}
use Rattle.dri_plane.specs.Grids.{ClipRect, IsInside, pixel_count}
use Rattle.dri_base.specs.Rectangles.{AreApart}
use Rattle.dri_plane.specs.Moves.{pixel_counts}

-- the sum of f over the numbers below n
abbrev total : (ℕ → ℕ) → ℕ → ℕ
total f zero = 0
total f (suc n) = total f n + f n

-- 1 where it is so
abbrev one : Bool → ℕ
one true = 1
one false = 0

same_total : (f g : ℕ → ℕ) (n : ℕ) → ((k : ℕ) → k < n → f k ≡ g k) → total f n ≡ total g n
same_total f g zero same = refl
same_total f g (suc n) same =
    let before = same_total f g n (λ k within. same k (omega arith)) in
    let last = same n (omega arith) in
    omega (arith, before, last)

total_none : (n : ℕ) → total (λ k. 0) n ≡ 0
total_none zero = refl
total_none (suc n) = let before = total_none n in omega (arith, before)

total_both : (f g : ℕ → ℕ) (n : ℕ) → total (λ k. f k + g k) n ≡ total f n + total g n
total_both f g zero = refl
total_both f g (suc n) = let before = total_both f g n in omega (arith, before)

total_at_most : (f : ℕ → ℕ) (n m : ℕ) → ((k : ℕ) → k < n → f k ≤ m) → total f n ≤ n * m
total_at_most f zero m most = omega arith
total_at_most f (suc n) m most =
    let before = total_at_most f n m (λ k within. most k (omega arith)) in
    let last = most n (omega arith) in
    omega (arith, before, last)

longer : (m x y : ℕ) → y ≡ x + 1 → m * x + m ≡ m * y
longer m x y e = rw e (omega arith)

as_long : (m x y : ℕ) → y ≡ x → m * x + 0 ≡ m * y
as_long m x y e = rw e (omega arith)

-- m at each number from a up to b, and 0 at the others
run_total : (m a b n : ℕ) → total (λ k. if nat_le a k && nat_lt k b then m else 0) n ≡ m * (min b n - a)
run_total m a b zero = let none : min b 0 - a ≡ 0 = omega arith in rw none (omega arith)
run_total m a b (suc n) = by (run_total m a b n) (nat_le a n) (nat_lt n b) refl refl where
  by : total (λ k. if nat_le a k && nat_lt k b then m else 0) n ≡ m * (min b n - a) → (p q : Bool) → nat_le a n ≡ p → nat_lt n b ≡ q → total (λ k. if nat_le a k && nat_lt k b then m else 0) n + (if p && q then m else 0) ≡ m * (min b (suc n) - a)
  by before true true from to = ap (λ t. t + m) before ∙ longer m (min b n - a) (min b (suc n) - a) (grind (arith, nat_tests, from, to))
  by before true false from to = ap (λ t. t + 0) before ∙ as_long m (min b n - a) (min b (suc n) - a) (grind (arith, nat_tests, from, to))
  by before false q from to = ap (λ t. t + 0) before ∙ as_long m (min b n - a) (min b (suc n) - a) (grind (arith, nat_tests, from))

-- one row of a rectangle
row_total : (f : ℕ → Bool) (b : Bool) (n : ℕ) → total (λ k. one (f k && b)) n ≡ (if b then total (λ k. if f k then 1 else 0) n else 0)
row_total f true n = same_total _ _ n (λ k _. by (f k)) where
  by : (c : Bool) → one (c && true) ≡ (if c then 1 else 0)
  by true = refl
  by false = refl
row_total f false n = same_total _ _ n (λ k _. by (f k)) ∙ total_none n where
  by : (c : Bool) → one (c && false) ≡ 0
  by true = refl
  by false = refl

-- a rectangle has as many pixels as places of the grid
rect_total : (width height : ℕ) (r : ClipRect) → IsInside r width height → total (λ y. total (λ x. one (in_rect r x y)) width) height ≡ pixel_count r
rect_total width height r inside =
    let columns : 1 * (min r.x2 width - r.x1) ≡ r.x2 - r.x1 = omega arith in
    let rows : min r.y2 height - r.y1 ≡ r.y2 - r.y1 = omega arith in
    same_total _ (λ y. if nat_le r.y1 y && nat_lt y r.y2 then r.x2 - r.x1 else 0) height
    (λ y _. row_total (λ x. nat_le r.x1 x && nat_lt x r.x2) (nat_le r.y1 y && nat_lt y r.y2) width
    ∙ ap (λ n. if nat_le r.y1 y && nat_lt y r.y2 then n else 0) (run_total 1 r.x1 r.x2 width ∙ columns))
    ∙ run_total (r.x2 - r.x1) r.y1 r.y2 height ∙ ap (λ n. (r.x2 - r.x1) * n) rows

tail_all : (P : ClipRect → Type 0) (r : ClipRect) (rs : List ClipRect) → All P (r ∷ rs) → All P rs
tail_all P r rs all = λ k d within. all (suc k) d (omega arith)

sum_same : (f g : ClipRect → ℕ) (rs : List ClipRect) → All (λ r. f r ≡ g r) rs → sum_by f rs ≡ sum_by g rs
sum_same f g [] same = refl
sum_same f g (r ∷ rs) same =
    let first : f r ≡ g r = same 0 r (omega arith) in
    let others = sum_same f g rs (tail_all (λ s. f s ≡ g s) r rs same) in
    sum_by-cons f r rs ∙ rw (first, others) (sym (sum_by-cons g r rs))

-- rectangle by rectangle, or number by number
sum_total : (f : ClipRect → ℕ → ℕ) (rs : List ClipRect) (n : ℕ) → sum_by (λ r. total (f r) n) rs ≡ total (λ k. sum_by (λ r. f r k) rs) n
sum_total f [] n = sym (total_none n)
sum_total f (r ∷ rs) n =
    sum_by-cons (λ s. total (f s) n) r rs ∙ ap (λ t. total (f r) n + t) (sum_total f rs n) ∙ sym (total_both (f r) (λ k. sum_by (λ s. f s k) rs) n)
    ∙ same_total _ _ n (λ k _. sym (sum_by-cons (λ s. f s k) r rs))

none_there : (x y : ℕ) (rs : List ClipRect) → All (λ r. in_rect r x y ≡ false) rs → sum_by (λ r. one (in_rect r x y)) rs ≡ 0
none_there x y [] out = refl
none_there x y (r ∷ rs) out =
    let first : in_rect r x y ≡ false = out 0 r (omega arith) in
    let others = none_there x y rs (tail_all (λ s. in_rect s x y ≡ false) r rs out) in
    sum_by-cons (λ s. one (in_rect s x y)) r rs ∙ rw (first, others) refl

-- at most one of the rectangles has the place
one_there : (x y : ℕ) (rs : List ClipRect) → AllPairs AreApart rs → sum_by (λ r. one (in_rect r x y)) rs ≤ 1
one_there x y [] apart = omega arith
one_there x y (r ∷ rs) apart = rw (sum_by-cons (λ s. one (in_rect s x y)) r rs) (by (one_there x y rs (λ i j d before within. apart (suc i) (suc j) d (omega arith) (omega arith))) (in_rect r x y) refl) where
  by : sum_by (λ s. one (in_rect s x y)) rs ≤ 1 → (b : Bool) → in_rect r x y ≡ b → one b + sum_by (λ s. one (in_rect s x y)) rs ≤ 1
  by most true here =
      let others = none_there x y rs (λ k d within. ap (λ b. b && in_rect (get_or rs k d) x y) (sym here) ∙ apart 0 (suc k) d (omega arith) (omega arith) x y) in
      omega (arith, others)
  by most false there = omega (arith, most)

-- the pixels of such rectangles, place by place
count_places : (width height : ℕ) (rects : List ClipRect) → All (λ r. IsInside r width height) rects → pixel_counts rects ≡ total (λ y. total (λ x. sum_by (λ r. one (in_rect r x y)) rects) width) height
count_places width height rects inside =
    let places : ClipRect → ℕ → ℕ → ℕ = λ r y x. one (in_rect r x y) in
    sum_same pixel_count (λ r. total (λ y. total (places r y) width) height) rects (λ k d within. sym (rect_total width height (get_or rects k d) (inside k d within)))
    ∙ sum_total (λ r y. total (places r y) width) rects height
    ∙ same_total _ _ height (λ y _. sum_total (λ r. places r y) rects width)

-- such rectangles have at most as many pixels as the grid that they lie in
pub apart_fit : (width height : ℕ) (rects : List ClipRect) → All (λ r. IsInside r width height) rects → AllPairs AreApart rects → pixel_counts rects ≤ width * height
apart_fit width height rects inside apart =
    let counted = count_places width height rects inside in
    let most = total_at_most (λ y. total (λ x. sum_by (λ r. one (in_rect r x y)) rects) width) height (width * 1) (λ y _. total_at_most (λ x. sum_by (λ r. one (in_rect r x y)) rects) width 1 (λ x _. one_there x y rects apart)) in
    omega (arith, counted, most)

total_at_least : (f : ℕ → ℕ) (n m : ℕ) → ((k : ℕ) → k < n → m ≤ f k) → n * m ≤ total f n
total_at_least f zero m least = omega arith
total_at_least f (suc n) m least =
    let before = total_at_least f n m (λ k within. least k (omega arith)) in
    let last = least n (omega arith) in
    omega (arith, before, last)

-- where the sum is as great as can be, each number is
total_full : (f : ℕ → ℕ) (n m k : ℕ) → ((j : ℕ) → j < n → f j ≤ m) → total f n ≡ n * m → k < n → f k ≡ m
total_full f zero m k most full within = absurd (omega arith)
total_full f (suc n) m k most full within = by (cases_eq k n) (total_full f n m k (λ j below. most j (omega (arith, below)))) where
  before : total f n ≤ n * m
  before = total_at_most f n m (λ j below. most j (omega arith))

  last : f n ≤ m
  last = most n (omega arith)

  by : (k ≡ n) ⊎ (k ≡ n → ⊥) → (total f n ≡ n * m → k < n → f k ≡ m) → f k ≡ m
  by (inl same) others = ap f same ∙ omega (arith, before, last, full)
  by (inr other) others = others (omega (arith, before, last, full)) (below other)
    where
      below : (k ≡ n → ⊥) → k < n
      below other = omega (arith, other, within)

some_there : (x y : ℕ) (rects : List ClipRect) → list_any (λ r. in_rect r x y) rects ≡ true → 1 ≤ sum_by (λ r. one (in_rect r x y)) rects
some_there x y [] is = absurd (true≢false (sym is))
some_there x y (r ∷ rs) is = rw (sum_by-cons (λ s. one (in_rect s x y)) r rs) (by (in_rect r x y) is (some_there x y rs)) where
  by : (b : Bool) → (b || list_any (λ s. in_rect s x y) rs) ≡ true → (list_any (λ s. in_rect s x y) rs ≡ true → 1 ≤ sum_by (λ s. one (in_rect s x y)) rs) → 1 ≤ one b + sum_by (λ s. one (in_rect s x y)) rs
  by true is others = omega arith
  by false is others = let more = others is in omega (arith, more)

there_some : (x y : ℕ) (rects : List ClipRect) → sum_by (λ r. one (in_rect r x y)) rects ≡ 1 → list_any (λ r. in_rect r x y) rects ≡ true
there_some x y [] one_is = absurd (cc)
there_some x y (r ∷ rs) one_is = by (in_rect r x y) (sym (sum_by-cons (λ s. one (in_rect s x y)) r rs) ∙ one_is) (there_some x y rs) where
  by : (b : Bool) → one b + sum_by (λ s. one (in_rect s x y)) rs ≡ 1 → (sum_by (λ s. one (in_rect s x y)) rs ≡ 1 → list_any (λ s. in_rect s x y) rs ≡ true) → (b || list_any (λ s. in_rect s x y) rs) ≡ true
  by true e others = refl
  by false e others = others (omega (arith, e))

-- rectangles that have each place of the grid have at least as many pixels as the grid
pub cover_fills : (width height : ℕ) (rects : List ClipRect) → All (λ r. IsInside r width height) rects → ((x y : ℕ) → x < width → y < height → list_any (λ r. in_rect r x y) rects ≡ true) → width * height ≤ pixel_counts rects
cover_fills width height rects inside covers =
    let counted = count_places width height rects inside in
    let least = total_at_least (λ y. total (λ x. sum_by (λ r. one (in_rect r x y)) rects) width) height (width * 1) (λ y row. total_at_least (λ x. sum_by (λ r. one (in_rect r x y)) rects) width 1 (λ x column. some_there x y rects (covers x y column row))) in
    omega (arith, counted, least)

-- and rectangles apart that have as many have each place of it
pub full_covers : (width height : ℕ) (rects : List ClipRect) → All (λ r. IsInside r width height) rects → AllPairs AreApart rects → pixel_counts rects ≡ width * height → (x y : ℕ) → x < width → y < height → list_any (λ r. in_rect r x y) rects ≡ true
full_covers width height rects inside apart full x y column row =
    let counted = count_places width height rects inside in
    let in_row = total_full (λ b. total (λ a. sum_by (λ r. one (in_rect r a b)) rects) width) height (width * 1) y (λ b _. total_at_most (λ a. sum_by (λ r. one (in_rect r a b)) rects) width 1 (λ a _. one_there a b rects apart)) (omega (arith, counted, full)) row in
    there_some x y rects (total_full (λ a. sum_by (λ r. one (in_rect r a y)) rects) width 1 x (λ a _. one_there a y rects apart) in_row column)
