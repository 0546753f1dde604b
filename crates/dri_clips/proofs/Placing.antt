-- Windows by their numbers and places.
use Rattle.std.proofs.Common.{◌≡◌, ◌≢◌, ℕ, zero, suc, ◌<◌, ◌+◌, length, get_or, set, take, drop, map, replicate, List, [], ◌∷◌, ◌++◌, true, false, arith, refl, sym, ◌∙◌, ap, subst, Option, None, Some, slice_get, position, is_some, Contains, pos, inl, inr}
use Rattle.std.specs.Prelude.{◌==◌, nat_eq, IfSome, IfNone, All}
use Rattle.std.specs.List.{AllByRecursion, AllPairs, IsDistinct, insert, remove}
use Rattle.std.specs.Option.{option_map, option_map_or}
use Rattle.std.specs.Map.{keys_of, values_of, lookup}
use Rattle.std.proofs.lemmas.Bool.{true≢false, cases_eq, eq-eqb, ne_eqb, eqb-true, eqb-false}
use Rattle.std.proofs.lemmas.List.{take-map, drop-map, map-append}
use Rattle.std.proofs.lemmas.List.Quantifiers.{position-Some}
use Rattle.std.proofs.lemmas.Map.{NonePasses, none_passes_from_lookup}
use Rattle.indexmap.specs.IndexMap.{move_index, insert_entry}
use Rattle.indexmap.specs.Layout.{set_value_at}
use Rattle.dri_base.specs.declared.scene.Window.{Window}
use Rattle.dri_base.specs.Ranges.{WindowInRange, window_numbers}
use Rattle.dri_model.specs.Stacks.{origin, window_in}
use Rattle.dri_clips.specs.Layouts.{AreDistinct, IsAbsent, IsPlaced}

pub eq_sym : (a b : ℕ) → (a == b) ≡ (b == a)
eq_sym a b = elim (cases_eq a b) [
  | inl e ↦ eq-eqb a b e ∙ sym (eq-eqb b a (sym e))
  | inr f ↦ ne_eqb a b f ∙ sym (ne_eqb b a (λ e. f (sym e)))
]

-- where a window is placed
pub placed_below : (n i : ℕ) (ws : List Window) → IsPlaced n i ws → i < length ws
placed_below n i [] p = absurd p
placed_below n zero (w ∷ ws) p = omega arith
placed_below n (suc i) (w ∷ ws) p = let e = placed_below n i ws p.1 in omega arith

pub window_at : (n i : ℕ) (ws : List Window) → IsPlaced n i ws → window_in ws n ≡ slice_get ws i
window_at n i [] p = absurd p
window_at n zero (w ∷ ws) p = rw p refl
window_at n (suc i) (w ∷ ws) p = rw p.0 (window_at n i ws p.1)

pub number_at : (n i : ℕ) (ws : List Window) (w : Window) → IsPlaced n i ws → slice_get ws i ≡ Some w → (w.number == n) ≡ true
number_at n i [] w p e = absurd p
number_at n zero (v ∷ ws) w p e = let same : v ≡ w = cc in subst (λ (u : Window). (u.number == n) ≡ true) same p
number_at n (suc i) (v ∷ ws) w p e = number_at n i ws w p.1 e

pub origin_at : (n i : ℕ) (ws : List Window) (w : Window) → IsPlaced n i ws → slice_get ws i ≡ Some w → origin ws n ≡ (w.x, w.y)
origin_at n i [] w p e = absurd p
origin_at n zero (v ∷ ws) w p e = let same : v ≡ w = cc in rw p (ap (λ (u : Window). (u.x, u.y)) same)
origin_at n (suc i) (v ∷ ws) w p e = rw p.0 (origin_at n i ws w p.1 e)

pub window_absent : (n : ℕ) (ws : List Window) → IsAbsent n ws → window_in ws n ≡ None
window_absent n [] a = refl
window_absent n (w ∷ ws) a = rw a.0 (window_absent n ws a.1)

pub origin_absent : (n : ℕ) (ws : List Window) → IsAbsent n ws → origin ws n ≡ (pos 0, pos 0)
origin_absent n [] a = refl
origin_absent n (w ∷ ws) a = rw a.0 (origin_absent n ws a.1)

-- a window on the board isn't absent
pub not_absent : (n : ℕ) (ws : List Window) (k : ℕ) → k < length (window_numbers ws) → get_or (window_numbers ws) k n ≡ n → IsAbsent n ws → ⊥
not_absent n [] k below at a = absurd (omega arith)
not_absent n (w ∷ ws) zero below at a = eqb-false w.number n a.0 at
not_absent n (w ∷ ws) (suc k) below at a = not_absent n ws k (omega arith) at a.1

pub there : (n : ℕ) (ws : List Window) (r : Option ℕ) → Contains (window_numbers ws) n → IfNone r (IsAbsent n ws) → is_some r ≡ true
there n ws (Some i) c f = refl
there n ws None c f = absurd (not_absent n ws c.0 c.1 c.2 f)

-- in range, by number
pub number_below : (n : ℕ) (ws : List Window) (k : ℕ) → k < length (window_numbers ws) → get_or (window_numbers ws) k n ≡ n → All WindowInRange ws → n < 65
number_below n [] k below at all = absurd (omega arith)
number_below n (w ∷ ws) zero below at all = let r = all 0 w (omega arith) in omega (arith, r.numbered)
number_below n (w ∷ ws) (suc k) below at all = number_below n ws k (omega arith) at (λ j d b. all (suc j) d (omega arith))

-- what holds of all holds at a place
pub all_get : {X : Type 0} (P : X → Type 0) (xs : List X) (i : ℕ) (x : X) → slice_get xs i ≡ Some x → All P xs → P x
all_get P [] i x e all = absurd (true≢false (ap (λ o. is_some o) (sym e)))
all_get {X} P (y ∷ xs) zero x e all = let same : y ≡ x = cc in subst P same (all 0 y (omega arith))
all_get P (y ∷ xs) (suc i) x e all = all_get P xs i x e (λ j d b. all (suc j) d (omega arith))

-- the place by the keys of a map
placed_by : (n : ℕ) (ws : List Window) (i : ℕ) → i < length (window_numbers ws) → nat_eq n (get_or (window_numbers ws) i 0) ≡ true → ((k : ℕ) → k < i → nat_eq n (get_or (window_numbers ws) k 0) ≡ false) → IsPlaced n i ws
placed_by n [] i below here before = absurd (omega arith)
placed_by n (w ∷ ws) zero below here before = eq_sym w.number n ∙ here
placed_by n (w ∷ ws) (suc i) below here before = (eq_sym w.number n ∙ before 0 (omega arith), placed_by n ws i (omega arith) here (λ k b. before (suc k) (omega arith)))

pub place_there : (n : ℕ) (ks : List ℕ) (ws : List Window) (r : Option ℕ) → ks ≡ window_numbers ws → r ≡ position (nat_eq n) ks → IfSome r (λ at. IsPlaced n at ws)
place_there n ks ws None e p = tt
place_there n ks ws (Some i) e p =
    let f = position-Some (nat_eq n) (window_numbers ws) i 0 (ap (position (nat_eq n)) (sym e) ∙ sym p) in
    placed_by n ws i f.0 f.1 f.2

none_of : {X : Type 0} (o : Option X) → false ≡ is_some o → o ≡ None
none_of None e = refl
none_of (Some x) e = absurd (true≢false (sym e))

absent_values : (n : ℕ) (es : List (ℕ × Window)) → keys_of es ≡ window_numbers (values_of es) → NonePasses (nat_eq n) es → IsAbsent n (values_of es)
absent_values n [] e a = tt
absent_values n (p ∷ es) e a =
    let h : p.0 ≡ p.1.number = cc in
    let t : keys_of es ≡ window_numbers (values_of es) = cc in
    (eq_sym p.1.number n ∙ subst (λ (k : ℕ). nat_eq n k ≡ false) h a.0, absent_values n es t a.1)

pub place_absent : (n : ℕ) (es : List (ℕ × Window)) (r : Option ℕ) → keys_of es ≡ window_numbers (values_of es) → is_some r ≡ is_some (lookup (nat_eq n) es) → IfNone r (IsAbsent n (values_of es))
place_absent n es (Some i) e f = tt
place_absent n es None e f = absent_values n es e (none_passes_from_lookup (nat_eq n) es (none_of (lookup (nat_eq n) es) f))

-- no two keys are equal
absent_from : (n : ℕ) (ws : List Window) → AllByRecursion (λ y. nat_eq n y ≡ false) (window_numbers ws) → IsAbsent n ws
absent_from n [] a = tt
absent_from n (w ∷ ws) a = (eq_sym w.number n ∙ a.0, absent_from n ws a.1)

apart_numbers : (ws : List Window) → IsDistinct nat_eq (window_numbers ws) → AreDistinct ws
unfolding IsDistinct
apart_numbers [] d = tt
apart_numbers (w ∷ ws) d = (absent_from w.number ws d.0, apart_numbers ws d.1)

pub apart_keys : (ks : List ℕ) (ws : List Window) → ks ≡ window_numbers ws → IsDistinct nat_eq ks → AreDistinct ws
apart_keys ks ws e d = apart_numbers ws (subst (IsDistinct nat_eq) e d)

-- numbers by places
absent_pairs : (n : ℕ) (ws : List Window) → ((k d : ℕ) → k < length (window_numbers ws) → n ≢ get_or (window_numbers ws) k d) → IsAbsent n ws
absent_pairs n [] f = tt
absent_pairs n (w ∷ ws) f = (ne_eqb w.number n (λ e. f 0 0 (omega arith) (sym e)), absent_pairs n ws (λ k d b. f (suc k) d (omega arith)))

pub apart_pairs : (ws : List Window) → AllPairs ◌≢◌ (window_numbers ws) → AreDistinct ws
apart_pairs [] p = tt
apart_pairs (w ∷ ws) p = (absent_pairs w.number ws (λ k d b. p 0 (suc k) d (omega arith) (omega arith)), apart_pairs ws (λ i j d up b. p (suc i) (suc j) d (omega arith) (omega arith)))

-- a written value
values_set : (es : List (ℕ × Window)) (i : ℕ) (w : Window) → values_of (set_value_at es i w) ≡ set (values_of es) i w
values_set [] i w = refl
values_set (e ∷ es) zero w = refl
values_set (e ∷ es) (suc i) w = ap (λ vs. e.1 ∷ vs) (values_set es i w)

keys_set : (es : List (ℕ × Window)) (i : ℕ) (w : Window) → keys_of (set_value_at es i w) ≡ keys_of es
keys_set [] i w = refl
keys_set (e ∷ es) zero w = refl
keys_set (e ∷ es) (suc i) w = ap (λ ks. e.0 ∷ ks) (keys_set es i w)

numbers_set : (ws : List Window) (i : ℕ) (w : Window) → IfSome (slice_get ws i) (λ v. w.number ≡ v.number) → window_numbers (set ws i w) ≡ window_numbers ws
numbers_set [] i w s = refl
numbers_set (v ∷ ws) zero w s = ap (λ k. k ∷ window_numbers ws) s
numbers_set (v ∷ ws) (suc i) w s = ap (λ ks. v.number ∷ ks) (numbers_set ws i w s)

pub replaced_values : (es : List (ℕ × Window)) (i : ℕ) (w : Window) → values_of (set_value_at es i w) ≡ set (values_of es) i w
replaced_values es i w = values_set es i w

pub replaced_keys : (es : List (ℕ × Window)) (i : ℕ) (w : Window) → keys_of es ≡ window_numbers (values_of es) → IfSome (slice_get (values_of es) i) (λ v. w.number ≡ v.number) → keys_of (set_value_at es i w) ≡ window_numbers (values_of (set_value_at es i w))
replaced_keys es i w inv s = keys_set es i w ∙ inv ∙ sym (numbers_set (values_of es) i w s) ∙ ap window_numbers (sym (values_set es i w))

-- a moved item
get_map : {X Y : Type 0} (f : X → Y) (xs : List X) (i : ℕ) → slice_get (map f xs) i ≡ option_map f (slice_get xs i)
get_map f [] i = refl
get_map f (x ∷ xs) zero = refl
get_map f (x ∷ xs) (suc i) = get_map f xs i

map_removed : {X Y : Type 0} (f : X → Y) (xs : List X) (i : ℕ) → map f (remove xs i) ≡ remove (map f xs) i
map_removed f xs i = map-append f (take i xs) (drop (suc i) xs) ∙ (λ j. sym (take-map f i xs) j ++ sym (drop-map f (suc i) xs) j)

map_inserted : {X Y : Type 0} (f : X → Y) (xs : List X) (i : ℕ) (x : X) → map f (insert xs i x) ≡ insert (map f xs) i (f x)
map_inserted f xs i x = map-append f (take i xs) (x ∷ drop i xs) ∙ (λ j. sym (take-map f i xs) j ++ f x ∷ sym (drop-map f i xs) j)

pub map_moved : {X Y : Type 0} (f : X → Y) (xs : List X) (from to : ℕ) → map f (move_index xs from to) ≡ move_index (map f xs) from to
map_moved {X} {Y} f xs from to = by (slice_get xs from) (slice_get (map f xs) from) (get_map f xs from)
  where
    by : (o : Option X) (p : Option Y) → p ≡ option_map f o → map f (option_map_or (λ x. insert (remove xs from) to x) o xs) ≡ option_map_or (λ x. insert (remove (map f xs) from) to x) p (map f xs)
    by None p e = rw e refl
    by (Some x) p e = rw e (map_inserted f (remove xs from) to x ∙ ap (λ ys. insert ys to (f x)) (map_removed f xs from))

pub moved_keys : (es ms : List (ℕ × Window)) (from to : ℕ) → keys_of es ≡ window_numbers (values_of es) → ms ≡ move_index es from to → keys_of ms ≡ window_numbers (values_of ms)
moved_keys es ms from to inv e =
    ap keys_of e ∙ map_moved (λ p. p.0) es from to ∙ ap (λ ks. move_index ks from to) inv
    ∙ sym (map_moved (λ (w : Window). w.number) (values_of es) from to) ∙ ap window_numbers (sym (map_moved (λ p. p.1) es from to)) ∙ ap (λ ps. window_numbers (values_of ps)) (sym e)

pub moved_values : (es ms : List (ℕ × Window)) (from to : ℕ) → ms ≡ move_index es from to → values_of ms ≡ move_index (values_of es) from to
moved_values es ms from to e = ap values_of e ∙ map_moved (λ p. p.1) es from to

-- entries, one after another
abbrev pub entry_of : Window → ℕ × Window
entry_of w = (w.number, w)

absent_before : (ws : List Window) (i : ℕ) (d : Window) → i < length ws → AreDistinct ws → IsAbsent (get_or ws i d).number (take i ws)
absent_before [] i d below a = absurd (omega arith)
absent_before (w ∷ ws) zero d below a = tt
absent_before (w ∷ ws) (suc i) d below a = (eq_sym w.number (get_or ws i d).number ∙ differs ws i a.0 (omega arith), absent_before ws i d (omega arith) a.1)
  where
    differs : (vs : List Window) (k : ℕ) → IsAbsent w.number vs → k < length vs → ((get_or vs k d).number == w.number) ≡ false
    differs [] k f b = absurd (omega arith)
    differs (v ∷ vs) zero f b = f.0
    differs (v ∷ vs) (suc k) f b = differs vs k f.1 (omega arith)

insert_last : (ws : List Window) (w : Window) → IsAbsent w.number ws → insert_entry nat_eq (map entry_of ws) w.number w ≡ map entry_of (ws ++ w ∷ [])
insert_last [] w a = refl
insert_last (v ∷ ws) w a = let e : nat_eq w.number v.number ≡ false = eq_sym w.number v.number ∙ a.0 in rw e (ap (λ es. entry_of v ∷ es) (insert_last ws w a.1))

take_next : {X : Type 0} (xs : List X) (i : ℕ) (d : X) → i < length xs → take (suc i) xs ≡ take i xs ++ get_or xs i d ∷ []
take_next [] i d below = absurd (omega arith)
take_next (x ∷ xs) zero d below = refl
take_next (x ∷ xs) (suc i) d below = ap (λ ys. x ∷ ys) (take_next xs i d (omega arith))

pub take_one : {X : Type 0} (xs : List X) (i j : ℕ) (x : X) → j ≡ i + 1 → slice_get xs i ≡ Some x → take j xs ≡ take i xs ++ x ∷ []
take_one {X} xs i j x e at = subst (λ (k : ℕ). take k xs ≡ take i xs ++ x ∷ []) (let s : suc i ≡ j = omega arith in s) (by xs i at)
  where
    by : (ys : List X) (k : ℕ) → slice_get ys k ≡ Some x → take (suc k) ys ≡ take k ys ++ x ∷ []
    by [] k f = absurd (true≢false (ap (λ o. is_some o) (sym f)))
    by (y ∷ ys) zero f = let same : y ≡ x = cc in ap (λ z. z ∷ []) same
    by (y ∷ ys) (suc k) f = ap (λ zs. y ∷ zs) (by ys k f)

pub inserted : (ws : List Window) (i j : ℕ) (w d : Window) (es ns : List (ℕ × Window)) → j ≡ i + 1 → i < length ws → AreDistinct ws → w ≡ get_or ws i d → es ≡ map entry_of (take i ws) → ns ≡ insert_entry nat_eq es w.number w → ns ≡ map entry_of (take j ws)
inserted ws i j w d es ns e below a at es_are ns_are =
    let fresh : IsAbsent w.number (take i ws) = subst (λ (v : Window). IsAbsent v.number (take i ws)) (sym at) (absent_before ws i d below a) in
    let next : take i ws ++ w ∷ [] ≡ take j ws = ap (λ (v : Window). take i ws ++ v ∷ []) at ∙ sym (take_next ws i d below) ∙ ap (λ (k : ℕ). take k ws) (let s : suc i ≡ j = omega arith in s) in
    ns_are ∙ ap (λ ps. insert_entry nat_eq ps w.number w) es_are ∙ insert_last (take i ws) w fresh ∙ ap (map entry_of) next

values_entries : (ws : List Window) → values_of (map entry_of ws) ≡ ws
values_entries [] = refl
values_entries (w ∷ ws) = ap (λ vs. w ∷ vs) (values_entries ws)

keys_entries : (ws : List Window) → keys_of (map entry_of ws) ≡ window_numbers ws
keys_entries [] = refl
keys_entries (w ∷ ws) = ap (λ ks. w.number ∷ ks) (keys_entries ws)

pub entries_values : (ws : List Window) (es : List (ℕ × Window)) → es ≡ map entry_of ws → values_of es ≡ ws
entries_values ws es e = ap values_of e ∙ values_entries ws

pub entries_keys : (ws : List Window) (es : List (ℕ × Window)) → es ≡ map entry_of ws → keys_of es ≡ window_numbers (values_of es)
entries_keys ws es e = ap keys_of e ∙ keys_entries ws ∙ ap window_numbers (sym (entries_values ws es e))

pub placed_here : (ws : List Window) (i : ℕ) (w : Window) → AreDistinct ws → slice_get ws i ≡ Some w → IsPlaced w.number i ws
placed_here [] i w a e = absurd (true≢false (ap (λ o. is_some o) (sym e)))
placed_here (v ∷ ws) zero w a e = let same : v ≡ w = cc in eq-eqb v.number w.number (ap (λ (u : Window). u.number) same)
placed_here (v ∷ ws) (suc i) w a e = (eq_sym v.number w.number ∙ differs ws i a.0 e, placed_here ws i w a.1 e)
  where
    differs : (us : List Window) (k : ℕ) → IsAbsent v.number us → slice_get us k ≡ Some w → (w.number == v.number) ≡ false
    differs [] k b g = absurd (true≢false (ap (λ o. is_some o) (sym g)))
    differs (u ∷ us) zero b g = let same : u ≡ w = cc in subst (λ (z : Window). (z.number == v.number) ≡ false) same b.0
    differs (u ∷ us) (suc k) b g = differs us k b.1 g

-- the place that a look-up gave
pub place_is : (n i : ℕ) (ws : List Window) (r : Option ℕ) → IfSome r (λ at. IsPlaced n at ws) → r ≡ Some i → IsPlaced n i ws
place_is n i ws r h e = subst (λ (o : Option ℕ). IfSome o (λ at. IsPlaced n at ws)) e h

-- each stamp of the opening is 1
pub ones : (m n : ℕ) → ◌≡◌ {A = ℕ} (get_or {A = ℕ} (replicate m 1) n 1) 1
ones zero n = refl
ones (suc m) zero = refl
ones (suc m) (suc n) = ones m n

-- and back
absent_get : (n : ℕ) (ws : List Window) (j d : ℕ) → IsAbsent n ws → j < length (window_numbers ws) → n ≢ get_or (window_numbers ws) j d
absent_get n [] j d a b = absurd (omega arith)
absent_get n (w ∷ ws) zero d a b = λ e. eqb-false w.number n a.0 (sym e)
absent_get n (w ∷ ws) (suc j) d a b = absent_get n ws j d a.1 (omega arith)

pub pairs_apart : (ws : List Window) → AreDistinct ws → (i j d : ℕ) → i < j → j < length (window_numbers ws) → get_or (window_numbers ws) i d ≢ get_or (window_numbers ws) j d
pairs_apart [] a i j d up b = absurd (omega arith)
pairs_apart (w ∷ ws) a zero zero d up b = absurd (omega arith)
pairs_apart (w ∷ ws) a zero (suc j) d up b = absent_get w.number ws j d a.0 (omega arith)
pairs_apart (w ∷ ws) a (suc i) zero d up b = absurd (omega arith)
pairs_apart (w ∷ ws) a (suc i) (suc j) d up b = pairs_apart ws a.1 i j d (omega arith) (omega arith)

-- a window that is placed is on the board
pub placed_contains : (n i : ℕ) (ws : List Window) → IsPlaced n i ws → Contains (window_numbers ws) n
placed_contains n i ws p = (i, by i ws p, at i ws p)
  where
    by : (k : ℕ) (vs : List Window) → IsPlaced n k vs → k < length (window_numbers vs)
    by k [] q = absurd q
    by zero (v ∷ vs) q = omega arith
    by (suc k) (v ∷ vs) q = let b = by k vs q.1 in omega arith

    at : (k : ℕ) (vs : List Window) → IsPlaced n k vs → get_or (window_numbers vs) k n ≡ n
    at k [] q = absurd q
    at zero (v ∷ vs) q = eqb-true v.number n q
    at (suc k) (v ∷ vs) q = at k vs q.1
