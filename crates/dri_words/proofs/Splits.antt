-- Parts of a text.
use Rattle.std.proofs.Common.{◌≡◌, ◌≢◌, ℕ, zero, suc, ◌<◌, Bool, true, false, cond, List, [], ◌∷◌, length, take, drop, get_or, refl, ap, eq-eqb, ◌∙◌, arith}
use Rattle.std.specs.List.{slice_split, onto_first}
use Rattle.std.proofs.lemmas.Bool.{ne_eqb}
use Rattle.dri_words.specs.Parts.{parts_at, is_nil}

-- there is at least one part
pub no_split_is_empty : {X : Type 0} (p : X → Bool) (xs : List X) → is_nil (slice_split p xs) ≡ false
no_split_is_empty p [] = refl
no_split_is_empty p (x ∷ xs) = first (p x) x (slice_split p xs) where
  first : {X : Type 0} (b : Bool) (x : X) (parts : List (List X)) → is_nil (cond b ([] ∷ parts) (onto_first x parts)) ≡ false
  first true x parts = refl
  first false x [] = refl
  first false x (part ∷ parts) = refl

-- the parts behind a byte that is a separator, and behind one that isn't
split_here : (c b : ℕ) (bs : List ℕ) → b ≡ c → parts_at c (b ∷ bs) ≡ [] ∷ parts_at c bs
split_here c b bs same = ap (λ t. cond t ([] ∷ parts_at c bs) (onto_first b (parts_at c bs))) (eq-eqb b c same)

split_later : (c b : ℕ) (bs : List ℕ) → b ≢ c → parts_at c (b ∷ bs) ≡ onto_first b (parts_at c bs)
split_later c b bs other = ap (λ t. cond t ([] ∷ parts_at c bs) (onto_first b (parts_at c bs))) (ne_eqb b c other)

-- the first part ends at the first separator
pub cut_at : (c i : ℕ) (bytes : List ℕ) → i < length bytes → ((k : ℕ) → k < i → get_or bytes k 0 ≢ c) → get_or bytes i 0 ≡ c → parts_at c bytes ≡ take i bytes ∷ parts_at c (drop (suc i) bytes)
cut_at c i [] lt before here = absurd (omega arith)
cut_at c zero (b ∷ bs) lt before here = split_here c b bs here
cut_at c (suc i) (b ∷ bs) lt before here =
    split_later c b bs (before 0 (omega arith))
    ∙ ap (onto_first b) (cut_at c i bs (omega arith) (λ k below. before (suc k) (omega arith)) here)

-- with no separator it is one part
pub not_cut : (c : ℕ) (bytes : List ℕ) → ((k : ℕ) → k < length bytes → get_or bytes k 0 ≢ c) → parts_at c bytes ≡ bytes ∷ []
not_cut c [] none = refl
not_cut c (b ∷ bs) none =
    split_later c b bs (none 0 (omega arith))
    ∙ ap (onto_first b) (not_cut c bs (λ k below. none (suc k) (omega arith)))
