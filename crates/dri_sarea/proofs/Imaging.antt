-- An area and its image.
use Rattle.std.proofs.Common.{◌≡◌, ◌<◌, ℕ, List, [], ◌∷◌, ◌++◌, length, take, get_or, true, None, arith, refl, sym, ◌∙◌, ap, append_assoc, length-append}
use Rattle.std.proofs.lemmas.Bool.{and_parts}
use Rattle.std.proofs.lemmas.List.{append-nil}
use Rattle.dri_base.specs.declared.texture.TexRegion.{TexRegion}
use Rattle.dri_sarea.specs.declared.drawable.Drawable.{Drawable}
use Rattle.dri_sarea.specs.declared.layout.Range.TheVariants.{Any}
use Rattle.dri_sarea.specs.Areas.{Area, no_drawable, no_region}
use Rattle.dri_sarea.specs.Layouts.{number, size, pieces, zero_fields, zero_values, drawable_fields, drawable_values, entry_fields, entry_values, layout, values}
use Rattle.dri_sarea.specs.Images.{written, area_bytes, fits, are_held, IsArea, number_at, numbers_at, first_bad, bad_at}
use Rattle.dri_sarea.proofs.Fields.{written_append, held_append, held_parts, held_length, held_good, good_held}
use Rattle.dri_sarea.proofs.Bytes.{AreBytes, take_all, written_numbers, numbers_back, written_size}
use Rattle.dri_sarea.proofs.Pieces.{size_zeros, length_zeros, length_pieces, length_entry, held_zeros, held_piece}
use Rattle.dri_sarea.proofs.Parts.{the_numbers, the_drawables, the_entries, from_rest, from_entries, from_numbers, from_drawables, from_lock, from_padding, size_drawables, size_entries, all_good, zeros_read}
use Rattle.dri_sarea.proofs.Reading.{numbers_read, numbers_join}

-- what an area has in each part
abbrev pub shown : Area → List ℕ
shown a = pieces (λ i. drawable_values (get_or a.drawables i no_drawable)) 256

abbrev pub tens : Area → List ℕ
tens a = 0 ∷ 0 ∷ a.width ∷ a.height ∷ 0 ∷ 0 ∷ a.owner ∷ a.age ∷ a.region_count ∷ a.region_size ∷ []

abbrev pub listed : Area → List ℕ
listed a = pieces (λ i. entry_values a.region_count i (get_or a.regions i no_region)) 65

abbrev pub rest_values : List ℕ
rest_values = zero_values 5456 ++ []

abbrev pub entries_on : Area → List ℕ
entries_on a = listed a ++ rest_values

abbrev pub numbers_on : Area → List ℕ
numbers_on a = tens a ++ entries_on a

abbrev pub drawables_on : Area → List ℕ
drawables_on a = shown a ++ numbers_on a

abbrev pub lock_on : Area → List ℕ
lock_on a = zero_values 64 ++ drawables_on a

abbrev pub padding_on : Area → List ℕ
padding_on a = zero_values 60 ++ lock_on a

length_shown : (a : Area) → length the_drawables ≡ length (shown a)
length_shown a = length_pieces (λ i. drawable_fields) (λ i. drawable_values (get_or a.drawables i no_drawable)) 256 (λ i l. refl)

length_listed : (a : Area) → length (the_entries a.region_count) ≡ length (listed a)
length_listed a = length_pieces (entry_fields a.region_count) (λ i. entry_values a.region_count i (get_or a.regions i no_region)) 65 (λ i l. length_entry a.region_count i (get_or a.regions i no_region))

-- each part of an area can be held
pub record IsHeld (a : Area) : Type 0 where
  pub word : fits (number Any) a.word ≡ true
  pub drawables : are_held the_drawables (shown a) ≡ true
  pub numbers : are_held the_numbers (tens a) ≡ true
  pub entries : are_held (the_entries a.region_count) (listed a) ≡ true

pub all_held : (a : Area) → IsHeld a → are_held (layout a.region_count) (values a) ≡ true
all_held a h =
    let n = a.region_count in
    let rest : are_held from_rest rest_values ≡ true = held_append (zero_fields 5456) [] (zero_values 5456) [] (held_zeros 5456) refl in
    let entries = held_append (the_entries n) from_rest (listed a) rest_values h.entries rest in
    let numbers = held_append the_numbers (from_entries n) (tens a) (entries_on a) h.numbers entries in
    let drawables = held_append the_drawables (from_numbers n) (shown a) (numbers_on a) h.drawables numbers in
    let lock = held_append (zero_fields 64) (from_drawables n) (zero_values 64) (drawables_on a) (held_zeros 64) drawables in
    let padding = held_append (zero_fields 60) (from_lock n) (zero_values 60) (lock_on a) (held_zeros 60) lock in
    held_append (number Any ∷ []) (from_padding n) (a.word ∷ []) (padding_on a) (rw h.word refl) padding

pub each_held : (a : Area) → are_held (layout a.region_count) (values a) ≡ true → IsHeld a
each_held a h =
    let n = a.region_count in
    let word = held_parts (number Any ∷ []) (from_padding n) (a.word ∷ []) (padding_on a) refl h in
    let padding = held_parts (zero_fields 60) (from_lock n) (zero_values 60) (lock_on a) (length_zeros 60) word.1 in
    let lock = held_parts (zero_fields 64) (from_drawables n) (zero_values 64) (drawables_on a) (length_zeros 64) padding.1 in
    let drawables = held_parts the_drawables (from_numbers n) (shown a) (numbers_on a) (length_shown a) lock.1 in
    let numbers = held_parts the_numbers (from_entries n) (tens a) (entries_on a) refl drawables.1 in
    let entries = held_parts (the_entries n) from_rest (listed a) rest_values (length_listed a) numbers.1 in
    record { word = (and_parts (fits (number Any) a.word) true word.0).0; drawables = drawables.0; numbers = numbers.0; entries = entries.0 }

pub drawable_held : (a : Area) (ds : List Drawable) → IsArea a → ds ≡ a.drawables → (i : ℕ) → i < length ds → are_held drawable_fields (drawable_values (get_or ds i no_drawable)) ≡ true
drawable_held a ds h e i l = rw e (held_piece (λ i. drawable_fields) (λ i. drawable_values (get_or a.drawables i no_drawable)) 256 i (λ i. refl) (each_held a h.held).drawables (omega (arith, rw e at l, h.drawables)))

pub entry_held : (a : Area) (rs : List TexRegion) → IsArea a → rs ≡ a.regions → (i : ℕ) → i < length rs → are_held (entry_fields a.region_count i) (entry_values a.region_count i (get_or rs i no_region)) ≡ true
entry_held a rs h e i l = rw e (held_piece (entry_fields a.region_count) (λ i. entry_values a.region_count i (get_or a.regions i no_region)) 65 i (λ i. length_entry a.region_count i (get_or a.regions i no_region)) (each_held a h.held).entries (omega (arith, rw e at l, h.regions)))

-- the bytes of each part
abbrev pub word_bytes : Area → List ℕ
word_bytes a = written (number Any ∷ []) (a.word ∷ [])

abbrev pub padding_bytes : List ℕ
padding_bytes = written (zero_fields 60) (zero_values 60)

abbrev pub lock_bytes : List ℕ
lock_bytes = written (zero_fields 64) (zero_values 64)

abbrev pub drawable_bytes : Area → List ℕ
drawable_bytes a = written the_drawables (shown a)

abbrev pub number_bytes : Area → List ℕ
number_bytes a = written the_numbers (tens a)

abbrev pub entry_bytes : Area → List ℕ
entry_bytes a = written (the_entries a.region_count) (listed a)

abbrev pub rest_bytes : List ℕ
rest_bytes = written (zero_fields 5456) (zero_values 5456)

abbrev pub after_numbers : Area → List ℕ
after_numbers a = entry_bytes a ++ (rest_bytes ++ [])

pub in_parts : (a : Area) → area_bytes a ≡ word_bytes a ++ (padding_bytes ++ (lock_bytes ++ (drawable_bytes a ++ (number_bytes a ++ after_numbers a))))
in_parts a =
    let n = a.region_count in
    let rest : written from_rest rest_values ≡ rest_bytes ++ [] = written_append (zero_fields 5456) [] (zero_values 5456) [] (length_zeros 5456) in
    let entries : written (from_entries n) (entries_on a) ≡ after_numbers a = written_append (the_entries n) from_rest (listed a) rest_values (length_listed a) ∙ ap (λ (xs : List ℕ). entry_bytes a ++ xs) rest in
    let numbers = written_append the_numbers (from_entries n) (tens a) (entries_on a) refl ∙ ap (λ (xs : List ℕ). number_bytes a ++ xs) entries in
    let drawables = written_append the_drawables (from_numbers n) (shown a) (numbers_on a) (length_shown a) ∙ ap (λ (xs : List ℕ). drawable_bytes a ++ xs) numbers in
    let lock = written_append (zero_fields 64) (from_drawables n) (zero_values 64) (drawables_on a) (length_zeros 64) ∙ ap (λ (xs : List ℕ). lock_bytes ++ xs) drawables in
    let padding = written_append (zero_fields 60) (from_lock n) (zero_values 60) (lock_on a) (length_zeros 60) ∙ ap (λ (xs : List ℕ). padding_bytes ++ xs) lock in
    written_append (number Any ∷ []) (from_padding n) (a.word ∷ []) (padding_on a) refl ∙ ap (λ (xs : List ℕ). word_bytes a ++ xs) padding

regroup : (a b c d e f g : List ℕ) → ((((((a ++ b) ++ c) ++ d) ++ e) ++ f) ++ g) ≡ a ++ (b ++ (c ++ (d ++ (e ++ (f ++ (g ++ []))))))
regroup a b c d e f g =
    append_assoc (((((a ++ b) ++ c) ++ d) ++ e)) f g ∙ append_assoc ((((a ++ b) ++ c) ++ d)) e (f ++ g) ∙ append_assoc (((a ++ b) ++ c)) d (e ++ (f ++ g)) ∙ append_assoc (a ++ b) c (d ++ (e ++ (f ++ g)))
    ∙ append_assoc a b (c ++ (d ++ (e ++ (f ++ g)))) ∙ ap (λ (xs : List ℕ). a ++ (b ++ (c ++ (d ++ (e ++ (f ++ xs)))))) (sym (append-nil g))

-- the parts that a writer puts one after another are the image
pub image_is : (a : Area) (o0 o1 o2 o3 o4 o5 o6 o7 : List ℕ) → o0 ≡ [] → o1 ≡ o0 ++ word_bytes a → o2 ≡ o1 ++ padding_bytes → o3 ≡ o2 ++ lock_bytes → o4 ≡ o3 ++ drawable_bytes a → o5 ≡ o4 ++ number_bytes a → o6 ≡ o5 ++ entry_bytes a → o7 ≡ o6 ++ rest_bytes → o7 ≡ area_bytes a
image_is a o0 o1 o2 o3 o4 o5 o6 o7 e0 e1 e2 e3 e4 e5 e6 e7 =
    let f1 : o1 ≡ word_bytes a = e1 ∙ ap (λ (xs : List ℕ). xs ++ word_bytes a) e0 in
    let f2 = e2 ∙ ap (λ (xs : List ℕ). xs ++ padding_bytes) f1 in
    let f3 = e3 ∙ ap (λ (xs : List ℕ). xs ++ lock_bytes) f2 in
    let f4 = e4 ∙ ap (λ (xs : List ℕ). xs ++ drawable_bytes a) f3 in
    let f5 = e5 ∙ ap (λ (xs : List ℕ). xs ++ number_bytes a) f4 in
    let f6 = e6 ∙ ap (λ (xs : List ℕ). xs ++ entry_bytes a) f5 in
    e7 ∙ ap (λ (xs : List ℕ). xs ++ rest_bytes) f6 ∙ regroup (word_bytes a) padding_bytes lock_bytes (drawable_bytes a) (number_bytes a) (entry_bytes a) rest_bytes ∙ sym (in_parts a)

-- the parts of the lists that an area has
pub drawable_part : (a : Area) (ds : List Drawable) → IsArea a → ds ≡ a.drawables → written (pieces (λ i. drawable_fields) (length ds)) (pieces (λ i. drawable_values (get_or ds i no_drawable)) (length ds)) ≡ drawable_bytes a
drawable_part a ds h e =
    ap (λ (ds : List Drawable). written (pieces (λ i. drawable_fields) (length ds)) (pieces (λ i. drawable_values (get_or ds i no_drawable)) (length ds))) e
    ∙ ap (λ (k : ℕ). written (pieces (λ i. drawable_fields) k) (pieces (λ i. drawable_values (get_or a.drawables i no_drawable)) k)) h.drawables

pub entry_part : (a : Area) (rs : List TexRegion) → IsArea a → rs ≡ a.regions → written (pieces (entry_fields a.region_count) (length rs)) (pieces (λ i. entry_values a.region_count i (get_or rs i no_region)) (length rs)) ≡ entry_bytes a
entry_part a rs h e =
    ap (λ (rs : List TexRegion). written (pieces (entry_fields a.region_count) (length rs)) (pieces (λ i. entry_values a.region_count i (get_or rs i no_region)) (length rs))) e
    ∙ ap (λ (k : ℕ). written (pieces (entry_fields a.region_count) k) (pieces (λ i. entry_values a.region_count i (get_or a.regions i no_region)) k)) h.regions

around : (w p l d r : List ℕ) → w ++ (p ++ (l ++ (d ++ r))) ≡ (w ++ (p ++ (l ++ d))) ++ r
around w p l d r =
    ap (λ (xs : List ℕ). w ++ (p ++ xs)) (sym (append_assoc l d r)) ∙ ap (λ (xs : List ℕ). w ++ xs) (sym (append_assoc p (l ++ d) r)) ∙ sym (append_assoc w (p ++ (l ++ d)) r)

pub sizes : (a : Area) → (length (word_bytes a ++ (padding_bytes ++ (lock_bytes ++ drawable_bytes a))) ≡ 2176) × (length (number_bytes a) ≡ 40) × (length (entry_bytes a) ≡ 520) × (length rest_bytes ≡ 5456)
sizes a =
    let p = written_size (zero_fields 60) (zero_values 60) (length_zeros 60) ∙ size_zeros 60 in
    let l = written_size (zero_fields 64) (zero_values 64) (length_zeros 64) ∙ size_zeros 64 in
    let d = written_size the_drawables (shown a) (length_shown a) ∙ size_drawables in
    let n = written_size the_numbers (tens a) refl in
    let e = written_size (the_entries a.region_count) (listed a) (length_listed a) ∙ size_entries a.region_count in
    let r = written_size (zero_fields 5456) (zero_values 5456) (length_zeros 5456) ∙ size_zeros 5456 in
    let w = written_size (number Any ∷ []) (a.word ∷ []) refl in
    (omega (arith, length-append (word_bytes a) (padding_bytes ++ (lock_bytes ++ drawable_bytes a)), length-append padding_bytes (lock_bytes ++ drawable_bytes a), length-append lock_bytes (drawable_bytes a), p, l, d, w), n, e, r)

pub image_size : (a : Area) → length (area_bytes a) ≡ 8192
image_size a =
    let s = sizes a in
    let b = word_bytes a ++ (padding_bytes ++ (lock_bytes ++ drawable_bytes a)) in
    let whole : area_bytes a ≡ b ++ (number_bytes a ++ after_numbers a) = in_parts a ∙ around (word_bytes a) padding_bytes lock_bytes (drawable_bytes a) (number_bytes a ++ after_numbers a) in
    ap (λ (xs : List ℕ). length xs) whole
    ∙ omega (arith, length-append b (number_bytes a ++ after_numbers a), length-append (number_bytes a) (after_numbers a), length-append (entry_bytes a) (rest_bytes ++ []), length-append rest_bytes [], s.0, s.1, s.2, s.3)

-- the number of regions is read where it stands
pub count_is : (a : Area) → IsArea a → number_at (area_bytes a) 2208 4 ≡ a.region_count
count_is a h =
    let b = word_bytes a ++ (padding_bytes ++ (lock_bytes ++ drawable_bytes a)) in
    let whole : area_bytes a ≡ b ++ (number_bytes a ++ after_numbers a) = in_parts a ∙ around (word_bytes a) padding_bytes lock_bytes (drawable_bytes a) (number_bytes a ++ after_numbers a) in
    let back : numbers_at (b ++ (number_bytes a ++ after_numbers a)) (length b) the_numbers ≡ tens a = numbers_back the_numbers (tens a) b (after_numbers a) (each_held a h.held).numbers in
    let here : numbers_at (area_bytes a) 2176 the_numbers ≡ tens a = ap (λ (xs : List ℕ). numbers_at xs 2176 the_numbers) whole ∙ ap (λ (k : ℕ). numbers_at (b ++ (number_bytes a ++ after_numbers a)) k the_numbers) (sym (sizes a).0) ∙ back in
    ap (λ (xs : List ℕ). get_or xs 8 0) here

-- the image is read as the area's numbers
pub values_back : (a : Area) → IsArea a → numbers_at (area_bytes a) 0 (layout a.region_count) ≡ values a
values_back a h = ap (λ (xs : List ℕ). numbers_at xs 0 (layout a.region_count)) (sym (append-nil (area_bytes a))) ∙ numbers_back (layout a.region_count) (values a) [] [] h.held

pub image_good : (a : Area) → IsArea a → bad_at (area_bytes a) ≡ None
image_good a h = rw (image_size a) (ap (λ (n : ℕ). first_bad (area_bytes a) 0 (layout n)) (count_is a h) ∙ good_held (area_bytes a) 0 (layout a.region_count) (ap (λ (vs : List ℕ). are_held (layout a.region_count) vs) (values_back a h) ∙ h.held))

-- the bytes in which nothing is bad are the image of what is read from them
pub read_is : (bytes : List ℕ) (a : Area) → AreBytes bytes → length bytes ≡ 8192 → first_bad bytes 0 (layout (number_at bytes 2208 4)) ≡ None
    → a.word ≡ number_at bytes 0 4 → a.width ≡ number_at bytes 2184 4 → a.height ≡ number_at bytes 2188 4 → a.owner ≡ number_at bytes 2200 4 → a.age ≡ number_at bytes 2204 4 → a.region_count ≡ number_at bytes 2208 4 → a.region_size ≡ number_at bytes 2212 4
    → numbers_at bytes 128 the_drawables ≡ shown a → numbers_at bytes 2216 (the_entries a.region_count) ≡ listed a → numbers_at bytes 0 (layout a.region_count) ≡ values a
read_is bytes a h long good word width height owner age count size shows lists =
    let n = a.region_count in
    let g = all_good bytes n h (ap (λ (n : ℕ). first_bad bytes 0 (layout n)) count ∙ good) in
    let ten : numbers_at bytes 2176 the_numbers ≡ tens a = numbers_read bytes g.numbers
    ∙ (λ i. 0 ∷ 0 ∷ sym width i ∷ sym height i ∷ 0 ∷ 0 ∷ sym owner i ∷ sym age i ∷ sym count i ∷ sym size i ∷ []) in
    let rest : numbers_at bytes 2736 from_rest ≡ rest_values = numbers_join bytes 2736 8192 (zero_fields 5456) [] (zero_values 5456) [] (omega (arith, size_zeros 5456)) (zeros_read bytes 2736 5456 g.rest) refl in
    let entries = numbers_join bytes 2216 2736 (the_entries n) from_rest (listed a) rest_values (omega (arith, size_entries n)) lists rest in
    let numbers = numbers_join bytes 2176 2216 the_numbers (from_entries n) (tens a) (entries_on a) refl ten entries in
    let drawables = numbers_join bytes 128 2176 the_drawables (from_numbers n) (shown a) (numbers_on a) (omega (arith, size_drawables)) shows numbers in
    let lock = numbers_join bytes 64 128 (zero_fields 64) (from_drawables n) (zero_values 64) (drawables_on a) (omega (arith, size_zeros 64)) (zeros_read bytes 64 64 g.lock) drawables in
    let padding = numbers_join bytes 4 64 (zero_fields 60) (from_lock n) (zero_values 60) (lock_on a) (omega (arith, size_zeros 60)) (zeros_read bytes 4 60 g.padding) lock in
    numbers_join bytes 0 4 (number Any ∷ []) (from_padding n) (a.word ∷ []) (padding_on a) refl (λ i. sym word i ∷ []) padding

pub read_held : (bytes : List ℕ) (a : Area) → a.region_count ≡ number_at bytes 2208 4 → first_bad bytes 0 (layout (number_at bytes 2208 4)) ≡ None → numbers_at bytes 0 (layout a.region_count) ≡ values a → are_held (layout a.region_count) (values a) ≡ true
read_held bytes a count good e =
    ap (λ (vs : List ℕ). are_held (layout a.region_count) vs) (sym e) ∙ held_good bytes 0 (layout a.region_count) (ap (λ (n : ℕ). first_bad bytes 0 (layout n)) count ∙ good)

pub read_image : (bytes : List ℕ) (a : Area) → AreBytes bytes → length bytes ≡ 8192 → numbers_at bytes 0 (layout a.region_count) ≡ values a → are_held (layout a.region_count) (values a) ≡ true → bytes ≡ area_bytes a
read_image bytes a h long e held =
    let n = a.region_count in
    let full : size (layout n) ≡ length bytes = sym (written_size (layout n) (values a) (held_length (layout n) (values a) held)) ∙ image_size a ∙ sym long in
    sym (ap (λ (vs : List ℕ). written (layout n) vs) (sym e) ∙ written_numbers bytes 0 (layout n) h (omega (arith, full)) ∙ ap (λ (k : ℕ). take k bytes) full ∙ take_all bytes)
