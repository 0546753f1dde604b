-- Numbers that words spell, one word after the other.
use Rattle.std.proofs.Common.{◌≡◌, ◌<◌, ℕ, ℤ, List, [], ◌∷◌, ◌++◌, length, false, Option, Some, None, Err, refl, sym, ap, ◌∙◌, arith}
use Rattle.dri_words.specs.Lines.{or_else}
use Rattle.dri_words.specs.Parts.{is_nil}
use Rattle.dri_words.specs.Words.{◌>>=◌, number_at, signed_of}
use Rattle.dri_words.specs.declared.reason.Reason.TheVariants as reasons
use Rattle.dri_many.specs.Lines.{numbers_of}
use Rattle.dri_many.proofs.Accumulating.{behind, behind_more}

-- a number, and the words behind it
abbrev paired : List (List ℕ) → ℤ → Option (ℤ × List (List ℕ))
paired more n = Some (n, more)

-- the first word spells the number
first_number : (word : List ℕ) (more rest : List (List ℕ)) (n : ℤ) → number_at (word ∷ more) ≡ Some (n, rest) → (signed_of word ≡ Some n) × (rest ≡ more)
unfolding number_at
first_number word more rest n is = by_word (signed_of word) refl is where
  by_word : (o : Option ℤ) → signed_of word ≡ o → (o >>= paired more) ≡ Some (n, rest) → (signed_of word ≡ Some n) × (rest ≡ more)
  by_word None e is = absurd (cc)
  by_word (Some m) e is =
      let found : ℤ × List (List ℕ) = (m, more) in
      let wanted : ℤ × List (List ℕ) = (n, rest) in
      let same : found ≡ wanted = cc in
      (e ∙ ap (λ (x : ℤ × List (List ℕ)). Some x.0) same, sym (ap (λ (x : ℤ × List (List ℕ)). x.1) same))

no_words : (rest : List (List ℕ)) (n : ℤ) → number_at [] ≡ Some (n, rest) → ⊥
unfolding number_at
no_words rest n is = cc

-- a number, and those behind it
one_number : (ws rest : List (List ℕ)) (n : ℤ) → number_at ws ≡ Some (n, rest) → numbers_of ws ≡ (numbers_of rest >>= λ ns. Some (n ∷ ns))
one_number [] rest n is = absurd (no_words rest n is)
one_number (word ∷ more) rest n is =
    let first = first_number word more rest n is in
    ap (λ (o : Option ℤ). o >>= λ m. numbers_of more >>= λ ns. Some (m ∷ ns)) first.0 ∙ ap (λ (ws : List (List ℕ)). numbers_of ws >>= λ ns. Some (n ∷ ns)) (sym first.1)

-- a word fewer is left
pub fewer : (ws rest : List (List ℕ)) (n : ℤ) → Some (n, rest) ≡ number_at ws → length rest < length ws
fewer [] rest n is = absurd (no_words rest n (sym is))
fewer (word ∷ more) rest n is = let first = first_number word more rest n (sym is) in omega (arith, ap length first.1)

-- a word that spells no number
no_number : (ws : List (List ℕ)) → is_nil ws ≡ false → number_at ws ≡ None → numbers_of ws ≡ None
unfolding number_at
no_number [] some is = absurd (cc)
no_number (word ∷ more) some is = by_word (signed_of word) refl is where
  by_word : (o : Option ℤ) → signed_of word ≡ o → (o >>= paired more) ≡ None → numbers_of (word ∷ more) ≡ None
  by_word None e is = ap (λ (o : Option ℤ). o >>= λ m. numbers_of more >>= λ ns. Some (m ∷ ns)) e
  by_word (Some m) e is = absurd (cc)

-- the numbers so far, and one more
pub went_on : (numbers : List ℤ) (ws rest all : List (List ℕ)) (n : ℤ) → Some (n, rest) ≡ number_at ws → behind numbers (numbers_of ws) ≡ numbers_of all → behind (numbers ++ n ∷ []) (numbers_of rest) ≡ numbers_of all
went_on numbers ws rest all n is before = sym (behind_more numbers n (numbers_of rest)) ∙ ap (behind numbers) (sym (one_number ws rest n (sym is))) ∙ before

-- the numbers so far, and a word that spells none
pub stopped : (numbers : List ℤ) (ws all : List (List ℕ)) → is_nil ws ≡ false → None ≡ number_at ws → behind numbers (numbers_of ws) ≡ numbers_of all → or_else reasons.Shape (numbers_of all) ≡ Err reasons.Shape
stopped numbers ws all some none before = ap (or_else reasons.Shape) (sym before ∙ ap (behind numbers) (no_number ws some (sym none)))
