-- The lines of a text have its bytes, and one newline more.
use Rattle.std.proofs.Common.{◌≡◌, ℕ, suc, Bool, true, false, cond, List, [], ◌∷◌, length, refl, ap, ◌∙◌, arith}
use Rattle.std.specs.List.{slice_split, onto_first}
use Rattle.dri_words.specs.Parts.{is_nil}
use Rattle.dri_words.proofs.Splits.{no_split_is_empty}
use Rattle.dri_words.specs.Lines.{text_size}

-- a byte more in the first line
onto : (b : ℕ) (lines : List (List ℕ)) → is_nil lines ≡ false → text_size (onto_first b lines) ≡ suc (text_size lines)
onto b [] some = absurd (cc)
onto b (line ∷ lines) some = omega arith

-- a byte more: it ends a line, or is in the first
one_more : (b : ℕ) (lines : List (List ℕ)) (n : ℕ) (here : Bool) → is_nil lines ≡ false → text_size lines ≡ suc n → text_size (cond here ([] ∷ lines) (onto_first b lines)) ≡ suc (suc n)
one_more b lines n true some before = omega (arith, before)
one_more b lines n false some before = onto b lines some ∙ ap suc before

pub text_size_split : (p : ℕ → Bool) (bytes : List ℕ) → text_size (slice_split p bytes) ≡ suc (length bytes)
text_size_split p [] = refl
text_size_split p (b ∷ bs) = one_more b (slice_split p bs) (length bs) (p b) (no_split_is_empty p bs) (text_size_split p bs)
