-- Bytes that are written piece by piece.
use Rattle.std.proofs.Common.{◌≡◌, ℕ, ◌+◌, ◌-◌, ◌≤◌, List, ◌++◌, length, take, drop, sym, ap, ◌∙◌, arith, subst, append_assoc, length-append}
use Rattle.std.proofs.KnownBytes.{Appends-trans}
use Rattle.std.proofs.Math.Seq.{take-add, take-append-add}
use Rattle.std.proofs.lemmas.Grind.{flat_map-append}
use Rattle.std.proofs.lemmas.List.{take-append-drop, take-append-le}
use Rattle.std.specs.Io.KnownBytes.{Appends}
use Rattle.std.specs.List.{flat_map}
use Rattle.std.specs.Prelude.{Result, Ok, Err, OnErr}
use Rattle.std.specs.declared.option.Option.{Option}

-- a front of the bytes was taken, and no fault came where the sink takes all of them
pub record Sent (before now : Option (List ℕ)) (earlier later : ℕ) (took takes : ℕ → Type 0) (front whole : List ℕ) : Type 0 where
  pub held : Appends before now front
  pub risen : earlier ≤ later
  pub room : (n : ℕ) → length whole ≤ n → took n → (later ≡ earlier) × takes (n - length front)

-- a list with a front of it has no more items
front_fits : {A : Type 0} (front rest whole : List A) → whole ≡ front ++ rest → length front ≤ length whole
front_fits front rest whole split = omega (arith, length-append front rest, ap length split)

-- a piece more was taken
pub sent_more : (a b c : Option (List ℕ)) (fa fb fc : ℕ) (ta tb tc : ℕ → Type 0) (front piece next rest whole : List ℕ) → Sent a b fa fb ta tb front whole → whole ≡ (front ++ piece) ++ rest → front ++ piece ≡ next →
    Appends b c piece → fb ≤ fc → ((n : ℕ) → length piece ≤ n → tb n → (fc ≡ fb) × tc (n - length piece)) → Sent a c fa fc ta tc next whole
sent_more a b c fa fb fc ta tb tc front piece next rest whole sent split joined appended risen room = record {
  held = subst (Appends a c) joined (Appends-trans a b c _ _ sent.held appended);
  risen = omega (arith, sent.risen);
  room = λ n enough took.
      let before = sent.room n enough took in
      let size : length front + length piece ≡ length next = sym (length-append front piece) ∙ ap length joined in
      let fits = front_fits (front ++ piece) rest whole split in
      let after = room (n - length front) (omega (arith, length-append front piece, fits)) before.1 in
      let left : (n - length front) - length piece ≡ n - length next = omega (arith, size) in
      (after.0 ∙ before.0, subst tc left after.1);
}

-- a sink that takes all of them takes the next piece
pub takes_piece : (a b : Option (List ℕ)) (fa fb : ℕ) (ta tb : ℕ → Type 0) (front piece rest whole : List ℕ) → Sent a b fa fb ta tb front whole → whole ≡ (front ++ piece) ++ rest →
    (n : ℕ) → length whole ≤ n → ta n → (length piece ≤ n - length front) × tb (n - length front)
takes_piece a b fa fb ta tb front piece rest whole sent split n enough took =
    let fits = front_fits (front ++ piece) rest whole split in
    (omega (arith, fits, length-append front piece), (sent.room n enough took).1)

-- a front of the bytes, where the next piece was taken in part
pub front_taken : (a b c : Option (List ℕ)) (front piece rest whole : List ℕ) → whole ≡ (front ++ piece) ++ rest → Appends a b front → ((t : ℕ) × (t ≤ length piece) × Appends b c (take t piece)) →
    (t : ℕ) × (t ≤ length whole) × Appends a c (take t whole)
front_taken a b c front piece rest whole split held part =
    let t = part.0 in
    let fits = front_fits (front ++ piece) rest whole split in
    let same : take (length front + t) whole ≡ front ++ take t piece =
    ap (take (length front + t)) (split ∙ append_assoc front piece rest) ∙ take-append-add front (piece ++ rest) t ∙ ap (λ xs. front ++ xs) (take-append-le t piece rest part.1) in
    (length front + t, omega (arith, part.1, length-append front piece, fits), subst (Appends a c) (sym same) (Appends-trans a b c _ _ held part.2))

-- the rows up to one, and this row
pub rows_more : {A B : Type 0} (f : A → List B) (head row : List B) (xs : List A) (a b : ℕ) → a ≤ b → row ≡ flat_map f (take (b - a) (drop a xs)) → (head ++ flat_map f (take a xs)) ++ row ≡ head ++ flat_map f (take b xs)
rows_more f head row xs a b order is =
    let sum : a + (b - a) ≡ b = omega arith in
    ap (λ ys. (head ++ flat_map f (take a xs)) ++ ys) is ∙ append_assoc head _ _
    ∙ ap (λ ys. head ++ ys) (sym (flat_map-append f (take a xs) (take (b - a) (drop a xs))) ∙ ap (flat_map f) (sym (take-add a (b - a) xs)) ∙ ap (λ n. flat_map f (take n xs)) sum)

-- the rows up to one, this row, and the rest
pub rows_split : {A B : Type 0} (f : A → List B) (head row : List B) (xs all : List A) (a b : ℕ) → xs ≡ all → a ≤ b → row ≡ flat_map f (take (b - a) (drop a xs)) →
    head ++ flat_map f all ≡ ((head ++ flat_map f (take a xs)) ++ row) ++ flat_map f (drop b xs)
rows_split f head row xs all a b same order is =
    ap (λ ys. head ++ flat_map f ys) (sym same)
    ∙ ap (λ ys. head ++ ys) (ap (flat_map f) (sym (take-append-drop b xs)) ∙ flat_map-append f (take b xs) (drop b xs)) ∙ sym (append_assoc head _ _)
    ∙ ap (λ ys. ys ++ flat_map f (drop b xs)) (sym (rows_more f head row xs a b order is))

-- a fact holds where an answer is an error
pub on_err : {T E : Type 0} {P : Type 0} (r : Result T E) → P → OnErr r P
on_err (Ok x) fact = tt
on_err (Err e) fact = fact
