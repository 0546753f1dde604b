-- Areas that are made, and areas that are the same.
use Rattle.std.proofs.Common.{◌≡◌, ◌<◌, ◌≤◌, ◌+◌, ◌-◌, ◌^◌, ℕ, zero, suc, List, [], ◌∷◌, length, drop, get_or, set, replicate, Bool, true, false, None, arith, refl, sym, subst, ◌∙◌, ap, length-append, inl, inr}
use Rattle.std.specs.Prelude.{◌⊎◌, ◌==◌, ◌&&◌, ◌||◌, not, nat_lt, nat_le, if◌then◌else◌, All}
use Rattle.std.proofs.lemmas.Bool.{cases_eq, lt-ltb, le-leb}
use Rattle.std.proofs.lemmas.Bool.Decides.{nat_tests}
use Rattle.std.proofs.lemmas.List.{same_lists, get_or_default, append_cancel_left, append_cancel_right, length-replicate, length-set, get_or-set_same, get_or-set_other}
use Rattle.std.proofs.lemmas.List.Elements.{All-get_or}
use Rattle.std.proofs.lemmas.List.FromFn.{get_or-map-range_with_len, length-map-range_with_len}
use Rattle.std.proofs.Math.ListN.{get_or-append}
use Rattle.std.proofs.Math.Seq.{get_or-append_right}
use Rattle.dri_model.proofs.Spelling.{append_same}
use Rattle.dri_base.specs.Ranges.{IsRegionSize}
use Rattle.dri_base.proofs.RegionSizes.{region_size_tested}
use Rattle.dri_base.specs.declared.texture.TexRegion.{TexRegion}
use Rattle.dri_base.specs.Limits.{word_end}
use Rattle.dri_model.specs.Counting.{any_from, least}
use Rattle.dri_model.specs.Heaps.{Heap, stands_before}
use Rattle.dri_texheap.specs.Ring.{entry, entries, foremost}
use Rattle.dri_sarea.specs.declared.drawable.Drawable.{Drawable}
use Rattle.dri_sarea.specs.declared.layout.Width.{Width}
use Rattle.dri_sarea.specs.declared.layout.Width.TheVariants.{Byte, Number}
use Rattle.dri_sarea.specs.declared.layout.Range.TheVariants.{Any, Within, RegionSize}
use Rattle.dri_sarea.specs.Areas.{Area, no_drawable, no_region, all_entries}
use Rattle.dri_sarea.specs.Layouts.{bytes_in, number, pieces, zero_values, drawable_fields, drawable_values, entry_fields, entry_values, layout, values}
use Rattle.dri_sarea.specs.Images.{area_bytes, fits, are_held, IsArea, number_at, numbers_at, first_bad}
use Rattle.dri_sarea.proofs.Bytes.{AreBytes}
use Rattle.dri_sarea.proofs.Pieces.{length_pieces, length_entry, held_pieces, held_zeros}
use Rattle.dri_sarea.proofs.Parts.{the_drawables, the_entries}
use Rattle.dri_sarea.proofs.Imaging.{shown, listed, rest_values, numbers_on, drawables_on, lock_on, padding_on, all_held, count_is, values_back, read_is, read_held, read_image}

within_fits : (w : Width) (least most v : ℕ) → v < 256 ^ bytes_in w → least ≤ v → v ≤ most → fits (record { width = w; range = Within least most }) v ≡ true
within_fits w least most v s l m = rw (lt-ltb v (256 ^ bytes_in w) s, le-leb least v l, le-leb v most m) refl

any_fits : (v : ℕ) → v < word_end → fits (number Any) v ≡ true
any_fits v s = rw (lt-ltb v word_end s) refl

size_fits : (v : ℕ) → v < word_end → IsRegionSize v → fits (number RegionSize) v ≡ true
size_fits v s sized = rw (lt-ltb v word_end s, region_size_tested v sized) refl

-- the entries of a list of regions
least_most : (p : ℕ → Bool) (n : ℕ) → least p n ≤ n
least_most p zero = omega arith
least_most p (suc n) = by (any_from p 0 n) refl (p n) refl (least_most p n)
  where
    by : (a : Bool) → any_from p 0 n ≡ a → (b : Bool) → p n ≡ b → least p n ≤ n → least p (suc n) ≤ suc n
    by true e b f l = rw e (omega (arith, l))
    by false e true f l = rw (e, f) (omega arith)
    by false e false f l = rw (e, f) (omega arith)

use_most : (t used shared : Bool) → (if t then (if used then (if shared then 2 else 1) else 0) else 0) ≤ 2
use_most true true true = omega arith
use_most true true false = omega arith
use_most true false shared = omega arith
use_most false used shared = omega arith

foremost_most : (n : ℕ) (before : ℕ → ℕ → Bool) (has : ℕ → Bool) → foremost n before has ≤ n
foremost_most n before has = least_most (λ j. has j && not (any_from (λ k. has k && before k j) 0 n)) n

entry_fits : (n : ℕ) (h : Heap) (i : ℕ) → n ≤ 64 → i ≤ n → (entry n h i).age < word_end → are_held (entry_fields n i) (entry_values n i (entry n h i)) ≡ true
entry_fits n h i m l s =
    rw (le-leb i n l)
    (rw (
      within_fits Byte 0 n (entry n h i).next (omega (arith, next, m)) (omega arith) next,
      within_fits Byte 0 n (entry n h i).prev (omega (arith, prev, m)) (omega arith) prev,
      within_fits Byte 0 2 (entry n h i).in_use (omega (arith, used)) (omega arith) used,
      any_fits (entry n h i).age s,
    )
    refl)
  where
    next : (entry n h i).next ≤ n
    next = foremost_most n (stands_before h) (λ j. (i == n) || stands_before h i j)

    prev : (entry n h i).prev ≤ n
    prev = foremost_most n (λ j k. stands_before h k j) (λ j. (i == n) || stands_before h j i)

    used : (entry n h i).in_use ≤ 2
    used = use_most (nat_lt i n) (h.used i) (h.shared i)

same_all : {A : Type 0} (n i : ℕ) (a : A) → get_or (replicate n a) i a ≡ a
same_all zero i a = refl
same_all (suc n) zero a = refl
same_all (suc n) (suc i) a = same_all n i a

entries_length : (n : ℕ) (h : Heap) → length (entries n h) ≡ suc n
entries_length n h = length-map-range_with_len (entry n h) 0 (suc n)

pub all_length : (n : ℕ) (h : Heap) → n ≤ 64 → length (all_entries n h) ≡ 65
all_length n h m = omega (arith, length-append (entries n h) (replicate (64 - n) no_region), entries_length n h, length-replicate (64 - n) no_region)

pub entry_at : (n : ℕ) (h : Heap) (i : ℕ) → i ≤ n → get_or (all_entries n h) i no_region ≡ entry n h i
entry_at n h i l = get_or-append (entries n h) (replicate (64 - n) no_region) no_region i (omega (arith, entries_length n h, l)) ∙ get_or-map-range_with_len (entry n h) 0 (suc n) i i no_region (omega (arith, l)) (omega arith)

pub none_above : (n : ℕ) (h : Heap) (i : ℕ) → n < i → get_or (all_entries n h) i no_region ≡ no_region
none_above n h i l = get_or-append_right (entries n h) (replicate (64 - n) no_region) i no_region (omega (arith, entries_length n h, l)) ∙ same_all (64 - n) (i - length (entries n h)) no_region

pub entries_is : (list : List TexRegion) (n i : ℕ) (h : Heap) → n ≤ 64 → length list ≡ 65 → i ≡ n + 1 → ((k : ℕ) → k < i → get_or list k no_region ≡ entry n h k) → ((k : ℕ) → i ≤ k → get_or list k no_region ≡ no_region) → list ≡ all_entries n h
entries_is list n i h m long e set left = same_lists list (all_entries n h) (long ∙ sym (all_length n h m)) (λ k d l. get_or_default list k d no_region l ∙ at k (nat_lt k i) refl ∙ get_or_default (all_entries n h) k no_region d (omega (arith, l, long, all_length n h m)))
  where
    at : (k : ℕ) (t : Bool) → nat_lt k i ≡ t → get_or list k no_region ≡ get_or (all_entries n h) k no_region
    at k true q = let l : k < i = grind (arith, nat_tests) in set k l ∙ sym (entry_at n h k (omega (arith, l, e)))
    at k false q = let l : i ≤ k = grind (arith, nat_tests) in left k l ∙ sym (none_above n h k (omega (arith, l, e)))

-- an area with these parts has an image
pub made : (a : Area) (h : Heap) → a.word < word_end → length a.drawables ≡ 256 → All (λ d. d.flags ≤ 1) a.drawables → ((i : ℕ) → (get_or a.drawables i no_drawable).stamp < word_end)
    → (1 ≤ a.width) × (a.width ≤ 1024) → (1 ≤ a.height) × (a.height ≤ 1024) → a.owner ≤ 33 → a.age < word_end → 0 < a.region_count → a.region_count ≤ 64 → IsRegionSize a.region_size → a.region_size < word_end
    → a.regions ≡ all_entries a.region_count h → ((i : ℕ) → (get_or a.regions i no_region).age < word_end) → IsArea a
made a h word shows flags stamps wide high owner age some most sized small lists ages = record {
  drawables = shows;
  regions = ap (λ (rs : List TexRegion). length rs) lists ∙ all_length a.region_count h most;
  unused = λ i l. ap (λ (rs : List TexRegion). get_or rs i no_region) lists ∙ none_above a.region_count h i l;
  held = all_held a (record {
    word = any_fits a.word word;
    drawables = held_pieces (λ i. drawable_fields) (λ i. drawable_values (get_or a.drawables i no_drawable)) 256 (λ i l. drawable i (omega (arith, l, shows)));
    numbers = rw (within_fits Number 1 1024 a.width (omega (arith, wide.1)) wide.0 wide.1, within_fits Number 1 1024 a.height (omega (arith, high.1)) high.0 high.1, within_fits Number 0 33 a.owner (omega (arith, owner)) (omega arith) owner, any_fits a.age age, within_fits Number 1 64 a.region_count (omega (arith, most)) (omega (arith, some)) most, size_fits a.region_size small sized) refl;
    entries = held_pieces (entry_fields a.region_count) (λ i. entry_values a.region_count i (get_or a.regions i no_region)) 65 (λ i l. listing i (nat_le i a.region_count) refl);
  });
}
  where
    drawable : (i : ℕ) → i < length a.drawables → are_held drawable_fields (drawable_values (get_or a.drawables i no_drawable)) ≡ true
    drawable i l = let f = All-get_or (λ d. d.flags ≤ 1) a.drawables i no_drawable l flags in rw (any_fits (get_or a.drawables i no_drawable).stamp (stamps i), within_fits Number 0 1 (get_or a.drawables i no_drawable).flags (omega (arith, f)) (omega arith) f) refl

    listing : (i : ℕ) (t : Bool) → nat_le i a.region_count ≡ t → are_held (entry_fields a.region_count i) (entry_values a.region_count i (get_or a.regions i no_region)) ≡ true
    listing i true e =
        let l : i ≤ a.region_count = grind (arith, nat_tests) in
        let same : get_or a.regions i no_region ≡ entry a.region_count h i = ap (λ (rs : List TexRegion). get_or rs i no_region) lists ∙ entry_at a.region_count h i l in
        subst (λ r. are_held (entry_fields a.region_count i) (entry_values a.region_count i r) ≡ true) (sym same) (entry_fits a.region_count h i most l (subst (λ r. r.age < word_end) same (ages i)))
    listing i false e = rw e (held_zeros 8)

-- the area that is read from an image in which nothing is bad
pub read_area : (bytes : List ℕ) (a : Area) → AreBytes bytes → length bytes ≡ 8192 → first_bad bytes 0 (layout (number_at bytes 2208 4)) ≡ None
    → a.word ≡ number_at bytes 0 4 → a.width ≡ number_at bytes 2184 4 → a.height ≡ number_at bytes 2188 4 → a.owner ≡ number_at bytes 2200 4 → a.age ≡ number_at bytes 2204 4 → a.region_count ≡ number_at bytes 2208 4 → a.region_size ≡ number_at bytes 2212 4
    → numbers_at bytes 128 the_drawables ≡ shown a → numbers_at bytes 2216 (the_entries a.region_count) ≡ listed a → length a.drawables ≡ 256 → length a.regions ≡ 65 → ((i : ℕ) → a.region_count < i → get_or a.regions i no_region ≡ no_region)
    → IsArea a × (bytes ≡ area_bytes a)
read_area bytes a small long good word width height owner age count size shows lists drawables regions unused =
    let e = read_is bytes a small long good word width height owner age count size shows lists in
    let held = read_held bytes a count good e in
    (record { drawables = drawables; regions = regions; unused = unused; held = held }, read_image bytes a small long e held)

-- an image is that of one area
piece_same : (p q : ℕ → List ℕ) (k i : ℕ) → ((i : ℕ) → length (p i) ≡ length (q i)) → pieces p k ≡ pieces q k → i < k → p i ≡ q i
unfolding pieces
piece_same p q zero i h e l = absurd (omega arith)
piece_same p q (suc k) i h e l = by (cases_eq i k) (piece_same p q k i h)
  where
    r : (pieces p k ≡ pieces q k) × (p k ≡ q k)
    r = append_same (pieces p k) (pieces q k) (p k) (q k) (length_pieces p q k (λ i l. h i)) e

    by : (i ≡ k) ⊎ (i ≡ k → ⊥) → (pieces p k ≡ pieces q k → i < k → p i ≡ q i) → p i ≡ q i
    by (inl same) below = rw same r.1
    by (inr other) below = below r.0 (omega (arith, other))

same_drawable : (c d : Drawable) → drawable_values c ≡ drawable_values d → c ≡ d
same_drawable c d e = let s = ap (λ (xs : List ℕ). get_or xs 0 0) e in let f = ap (λ (xs : List ℕ). get_or xs 1 0) e in λ i. record { stamp = s i; flags = f i }

same_entry : (n i : ℕ) (r s : TexRegion) → i ≤ n → entry_values n i r ≡ entry_values n i s → r ≡ s
same_entry n i r s l h =
    let e : r.next ∷ r.prev ∷ r.in_use ∷ 0 ∷ r.age ∷ [] ≡ s.next ∷ s.prev ∷ s.in_use ∷ 0 ∷ s.age ∷ [] = rw (le-leb i n l) at h in
    let a = ap (λ (xs : List ℕ). get_or xs 0 0) e in
    let b = ap (λ (xs : List ℕ). get_or xs 1 0) e in
    let c = ap (λ (xs : List ℕ). get_or xs 2 0) e in
    let d = ap (λ (xs : List ℕ). get_or xs 4 0) e in
    λ j. record { next = a j; prev = b j; in_use = c j; age = d j }

same_list : {A : Type 0} (xs ys : List A) (none : A) → length xs ≡ length ys → ((k : ℕ) → k < length xs → get_or xs k none ≡ get_or ys k none) → xs ≡ ys
same_list xs ys none l h = same_lists xs ys l (λ k d m. get_or_default xs k d none m ∙ h k m ∙ get_or_default ys k none d (omega (arith, m, l)))

pub one_area : (a b : Area) → IsArea a → IsArea b → area_bytes a ≡ area_bytes b → a ≡ b
one_area a b h k e =
    let count : a.region_count ≡ b.region_count = sym (count_is a h) ∙ ap (λ (xs : List ℕ). number_at xs 2208 4) e ∙ count_is b k in
    let all : values a ≡ values b = sym (values_back a h) ∙ ap (λ (xs : List ℕ). numbers_at xs 0 (layout a.region_count)) e ∙ ap (λ (n : ℕ). numbers_at (area_bytes b) 0 (layout n)) count ∙ values_back b k in
    let word : a.word ≡ b.word = ap (λ (xs : List ℕ). get_or xs 0 0) all in
    let padding : padding_on a ≡ padding_on b = ap (λ (xs : List ℕ). drop 1 xs) all in
    let lock : lock_on a ≡ lock_on b = append_cancel_left (zero_values 60) (lock_on a) (lock_on b) padding in
    let drawables : drawables_on a ≡ drawables_on b = append_cancel_left (zero_values 64) (drawables_on a) (drawables_on b) lock in
    let shows = append_same (shown a) (shown b) (numbers_on a) (numbers_on b) (length_pieces (λ i. drawable_values (get_or a.drawables i no_drawable)) (λ i. drawable_values (get_or b.drawables i no_drawable)) 256 (λ i l. refl)) drawables in
    let width : a.width ≡ b.width = ap (λ (xs : List ℕ). get_or xs 2 0) shows.1 in
    let height : a.height ≡ b.height = ap (λ (xs : List ℕ). get_or xs 3 0) shows.1 in
    let owner : a.owner ≡ b.owner = ap (λ (xs : List ℕ). get_or xs 6 0) shows.1 in
    let age : a.age ≡ b.age = ap (λ (xs : List ℕ). get_or xs 7 0) shows.1 in
    let size : a.region_size ≡ b.region_size = ap (λ (xs : List ℕ). get_or xs 9 0) shows.1 in
    let lists : listed a ≡ listed b = append_cancel_right (listed a) (listed b) rest_values (ap (λ (xs : List ℕ). drop 10 xs) shows.1) in
    let shown_same : a.drawables ≡ b.drawables = same_list a.drawables b.drawables no_drawable (h.drawables ∙ sym k.drawables)
    (λ i l. same_drawable (get_or a.drawables i no_drawable) (get_or b.drawables i no_drawable) (piece_same (λ i. drawable_values (get_or a.drawables i no_drawable)) (λ i. drawable_values (get_or b.drawables i no_drawable)) 256 i (λ i. refl) shows.0 (omega (arith, l, h.drawables)))) in
    let listed_same : a.regions ≡ b.regions = same_list a.regions b.regions no_region (h.regions ∙ sym k.regions) (λ i l. region count lists i (omega (arith, l, h.regions)) (nat_le i a.region_count) refl) in
    λ i. record { word = word i; drawables = shown_same i; width = width i; height = height i; owner = owner i; age = age i; region_count = count i; region_size = size i; regions = listed_same i }
  where
    lengths : (n m i : ℕ) (r s : TexRegion) → n ≡ m → length (entry_values n i r) ≡ length (entry_values m i s)
    lengths n m i r s e = sym (length_entry n i r) ∙ ap (λ (n : ℕ). length (entry_fields n i)) e ∙ length_entry m i s

    region : a.region_count ≡ b.region_count → listed a ≡ listed b → (i : ℕ) → i < 65 → (t : Bool) → nat_le i a.region_count ≡ t → get_or a.regions i no_region ≡ get_or b.regions i no_region
    region count lists i l true q =
        let m : i ≤ a.region_count = grind (arith, nat_tests) in
        let p : entry_values a.region_count i (get_or a.regions i no_region) ≡ entry_values b.region_count i (get_or b.regions i no_region) =
        piece_same (λ i. entry_values a.region_count i (get_or a.regions i no_region)) (λ i. entry_values b.region_count i (get_or b.regions i no_region)) 65 i (λ i. lengths a.region_count b.region_count i (get_or a.regions i no_region) (get_or b.regions i no_region) count) lists l in
        same_entry a.region_count i (get_or a.regions i no_region) (get_or b.regions i no_region) m (p ∙ ap (λ (n : ℕ). entry_values n i (get_or b.regions i no_region)) (sym count))
    region count lists i l false q =
        let m : a.region_count < i = grind (arith, nat_tests) in
        h.unused i m ∙ sym (k.unused i (omega (arith, m, count)))

-- the entries that a writer has set
pub no_entries : (list : List TexRegion) → list ≡ replicate 65 no_region → (k : ℕ) → get_or list k no_region ≡ no_region
no_entries list e k = rw e (same_all 65 k no_region)

pub set_length : (list : List TexRegion) (i : ℕ) (r : TexRegion) → length (set list i r) ≡ length list
set_length list i r = length-set list i r

pub set_other : (list : List TexRegion) (i k : ℕ) (r : TexRegion) → (k ≡ i → ⊥) → get_or (set list i r) k no_region ≡ get_or list k no_region
set_other list i k r other = get_or-set_other list i k r no_region other

pub set_here : (list : List TexRegion) (i : ℕ) (r : TexRegion) (f : ℕ → TexRegion) → i < length list → r ≡ f i → ((k : ℕ) → k < i → get_or list k no_region ≡ f k) → (k : ℕ) → k < i + 1 → get_or (set list i r) k no_region ≡ f k
set_here list i r f room e h k l = by (cases_eq k i)
  where
    by : (k ≡ i) ⊎ (k ≡ i → ⊥) → get_or (set list i r) k no_region ≡ f k
    by (inl same) = subst (λ n. get_or (set list i r) n no_region ≡ f n) (sym same) (get_or-set_same list i r no_region room ∙ e)
    by (inr other) = set_other list i k r other ∙ h k (omega (arith, other, l))

pub set_each : (list : List TexRegion) (i : ℕ) (r : TexRegion) → i < length list → r.age < word_end → ((k : ℕ) → (get_or list k no_region).age < word_end) → (k : ℕ) → (get_or (set list i r) k no_region).age < word_end
set_each list i r room s h k = by (cases_eq k i)
  where
    by : (k ≡ i) ⊎ (k ≡ i → ⊥) → (get_or (set list i r) k no_region).age < word_end
    by (inl same) = subst (λ n. (get_or (set list i r) n no_region).age < word_end) (sym same) (subst (λ r. r.age < word_end) (sym (get_or-set_same list i r no_region room)) s)
    by (inr other) = subst (λ r. r.age < word_end) (sym (set_other list i k r other)) (h k)
