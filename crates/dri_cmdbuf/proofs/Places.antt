-- Where words go wrong.
use Rattle.std.proofs.Common.{◌≡◌, ℕ, ◌+◌, ◌-◌, ◌%◌, ◌<◌, ◌≤◌, List, ◌++◌, length, get_or, take, replicate, Bool, true, false, ◌==◌, ◌||◌, if◌then◌else◌, refl, ap, subst, ◌∙◌, inl, inr, arith}
use Rattle.std.proofs.lemmas.List.{get_or_append_left, get_or-append_right, get_or-take, get_or-replicate, length-append, length-replicate, length-take-le}
use Rattle.std.proofs.lemmas.Bool.{cases_lt, both_ways, ne_eqb, cond-false}
use Rattle.std.proofs.lemmas.Option.{slice_get-get_or}
use Rattle.dri_model.specs.CommandWords.{Buffer}
use Rattle.dri_model.specs.WordFaults.{Begins, IsWrongWord, IsCutShort}
use Rattle.dri_cmdbuf.specs.Decoding.{is_good, IsWhole}
use Rattle.dri_cmdbuf.proofs.Grammar.{whole_buffer, buffer_good, buffer_thirteens}

-- 0 can stand anywhere but at a header's place
zero_good : (place : ℕ) → (place ≡ 0 → ⊥) → is_good place 0 ≡ true
zero_good place other = cond-false (place == 0) (0 == 0x54000003) (if place == 2 || (place == 6 || place == 10) then true else true) (ne_eqb place 0 other) ∙ same_either (place == 2 || (place == 6 || place == 10))
  where
    same_either : (b : Bool) → (if b then true else true) ≡ true
    same_either true = refl
    same_either false = refl

-- words that are right so far, with as many zeros as the last triangle lacks
filled : (words : List ℕ) → ((i : ℕ) → i < length words → is_good (i % 13) (get_or words i 0) ≡ true) → ((i : ℕ) → i < length words → get_or words i 0 < 4294967296) → IsWhole (words ++ replicate ((13 - length words % 13) % 13) 0)
filled words good small =
    let n : ℕ = length words in
    let lack : ℕ = (13 - n % 13) % 13 in
    let zeros : List ℕ = replicate lack 0 in
    let long : length (words ++ zeros) ≡ n + lack = length-append words zeros ∙ ap (λ m. n + m) (length-replicate lack 0) in
    let last : (i : ℕ) → n ≤ i → i < n + lack → get_or (words ++ zeros) i 0 ≡ 0 = λ i from below. get_or-append_right words zeros n i 0 refl from ∙ get_or-replicate lack (i - n) 0 0 (omega arith) in
    record {
      thirteens = rw long (omega arith);
      good = λ i within. elim (cases_lt i n) as (λ _. is_good (i % 13) (get_or (words ++ zeros) i 0) ≡ true) [
        | inl first ↦ rw (get_or_append_left words zeros 0 i first) (good i first)
        | inr from ↦ rw (last i from (subst (λ m. i < m) long within)) (zero_good (i % 13) (λ none. let below : i < n + lack = subst (λ m. i < m) long within in omega arith))
      ];
      small = λ i within. elim (cases_lt i n) as (λ _. get_or (words ++ zeros) i 0 < 4294967296) [
        | inl first ↦ rw (get_or_append_left words zeros 0 i first) (small i first)
        | inr from ↦ rw (last i from (subst (λ m. i < m) long within)) (omega arith)
      ];
    }

begins : (words : List ℕ) → ((i : ℕ) → i < length words → is_good (i % 13) (get_or words i 0) ≡ true) → ((i : ℕ) → i < length words → get_or words i 0 < 4294967296) → Begins Buffer words
begins words good small = (replicate ((13 - length words % 13) % 13) 0, whole_buffer (words ++ replicate ((13 - length words % 13) % 13) 0) (filled words good small))

-- the first word that can't stand at its place
pub wrong_word : (words : List ℕ) (at : ℕ) → at < length words → ((i : ℕ) → i < at → is_good (i % 13) (get_or words i 0) ≡ true) → ((i : ℕ) → i < length words → get_or words i 0 < 4294967296) → is_good (at % 13) (get_or words at 0) ≡ false → IsWrongWord Buffer words at (get_or words at 0)
wrong_word words at within good small bad =
    let some : length (take at words) ≡ at = length-take-le at words (omega arith) in
    let more : length (take (at + 1) words) ≡ at + 1 = length-take-le (at + 1) words (omega arith) in
    record {
      there = slice_get-get_or words at 0 within;
      before = begins (take at words)
          (λ i short. let below : i < at = subst (λ m. i < m) some short in rw (get_or-take at words i 0 below) (good i below))
          (λ i short. let below : i < at = subst (λ m. i < m) some short in rw (get_or-take at words i 0 below) (small i (omega arith)));
      wrong = λ b.
          let kind : Buffer (take (at + 1) words ++ b.0) = b.1 in
          let long : at < length (take (at + 1) words ++ b.0) = rw (length-append (take (at + 1) words) b.0, more) (omega arith) in
          let stands : is_good (at % 13) (get_or (take (at + 1) words ++ b.0) at 0) ≡ true = rw kind.spells (buffer_good kind.triangles kind.in_range at (subst (λ l. at < length l) kind.spells long)) in
          let item : get_or (take (at + 1) words ++ b.0) at 0 ≡ get_or words at 0 = get_or_append_left (take (at + 1) words) b.0 0 at (rw more (omega arith)) ∙ get_or-take (at + 1) words at 0 (omega arith) in
          both_ways (is_good (at % 13) (get_or words at 0)) bad (rw item at stands);
    }

pub cut_short : (words : List ℕ) → ((i : ℕ) → i < length words → is_good (i % 13) (get_or words i 0) ≡ true) → ((i : ℕ) → i < length words → get_or words i 0 < 4294967296) → (length words % 13 ≡ 0 → ⊥) → IsCutShort Buffer words (length words) 0
cut_short words good small inside = record {
  end = refl;
  zero = refl;
  before = begins words good small;
  short = λ kind. inside (ap (λ l. length l % 13) kind.spells ∙ buffer_thirteens kind.triangles);
}
