-- Lists of fields that repeat.
use Rattle.std.proofs.Common.{◌≡◌, ◌<◌, ◌+◌, ◌*◌, ℕ, zero, suc, List, [], ◌∷◌, ◌++◌, length, Bool, true, false, Some, None, arith, refl, ◌∙◌, ap, length-append, inl, inr}
use Rattle.std.specs.Prelude.{◌⊎◌, nat_le}
use Rattle.std.proofs.lemmas.Bool.{cases_eq}
use Rattle.dri_base.specs.declared.texture.TexRegion.{TexRegion}
use Rattle.dri_sarea.specs.declared.layout.Field.{Field}
use Rattle.dri_sarea.specs.declared.layout.Range.TheVariants.{Within}
use Rattle.dri_sarea.specs.Layouts.{byte, size, pieces, zero_fields, zero_values, entry_fields, entry_values}
use Rattle.dri_sarea.specs.Images.{written, are_held, numbers_at, first_bad}
use Rattle.dri_sarea.proofs.Fields.{size_append, first_bad_after, first_bad_stop, first_bad_split, numbers_append, written_append, held_append, held_parts}

pub no_pieces : {A : Type 0} (p : ℕ → List A) → pieces p 0 ≡ []
unfolding pieces
no_pieces p = refl

pub more_pieces : {A : Type 0} (p : ℕ → List A) (k : ℕ) → pieces p (k + 1) ≡ pieces p k ++ p k
unfolding pieces
more_pieces p k = let e : k + 1 ≡ suc k = omega arith in rw e refl

pub same_pieces : {A : Type 0} (p q : ℕ → List A) (k : ℕ) → ((i : ℕ) → i < k → p i ≡ q i) → pieces p k ≡ pieces q k
unfolding pieces
same_pieces p q zero h = refl
same_pieces p q (suc k) h = rw (h k (omega arith), same_pieces p q k (λ i l. h i (omega arith))) refl

pub length_pieces : {A B : Type 0} (p : ℕ → List A) (q : ℕ → List B) (k : ℕ) → ((i : ℕ) → i < k → length (p i) ≡ length (q i)) → length (pieces p k) ≡ length (pieces q k)
unfolding pieces
length_pieces p q zero h = refl
length_pieces p q (suc k) h = let a = length_pieces p q k (λ i l. h i (omega arith)) in let b = h k (omega arith) in
    omega (arith, length-append (pieces p k) (p k), length-append (pieces q k) (q k), a, b)

pub size_eights : (p : ℕ → List Field) (k : ℕ) → ((i : ℕ) → size (p i) ≡ 8) → size (pieces p k) ≡ 8 * k
unfolding pieces
size_eights p zero h = refl
size_eights p (suc k) h = omega (arith, size_append (pieces p k) (p k), size_eights p k h, h k)

pub size_zeros : (k : ℕ) → size (zero_fields k) ≡ k
unfolding pieces
size_zeros zero = refl
size_zeros (suc k) = omega (arith, size_append (zero_fields k) (byte (Within 0 0) ∷ []), size_zeros k)

pub size_entry : (n i : ℕ) → size (entry_fields n i) ≡ 8
size_entry n i = by (nat_le i n) refl
  where
    by : (t : Bool) → nat_le i n ≡ t → size (entry_fields n i) ≡ 8
    by true e = rw e refl
    by false e = rw e (size_zeros 8)

pub length_zeros : (k : ℕ) → length (zero_fields k) ≡ length (zero_values k)
length_zeros k = length_pieces (λ i. byte (Within 0 0) ∷ []) (λ i. 0 ∷ []) k (λ i l. refl)

pub length_entry : (n i : ℕ) (r : TexRegion) → length (entry_fields n i) ≡ length (entry_values n i r)
length_entry n i r = by (nat_le i n) refl
  where
    by : (t : Bool) → nat_le i n ≡ t → length (entry_fields n i) ≡ length (entry_values n i r)
    by true e = rw e refl
    by false e = rw e (length_zeros 8)

pub held_pieces : (p : ℕ → List Field) (q : ℕ → List ℕ) (k : ℕ) → ((i : ℕ) → i < k → are_held (p i) (q i) ≡ true) → are_held (pieces p k) (pieces q k) ≡ true
unfolding pieces
held_pieces p q zero h = refl
held_pieces p q (suc k) h = held_append (pieces p k) (p k) (pieces q k) (q k) (held_pieces p q k (λ i l. h i (omega arith))) (h k (omega arith))

pub held_piece : (p : ℕ → List Field) (q : ℕ → List ℕ) (k i : ℕ) → ((i : ℕ) → length (p i) ≡ length (q i)) → are_held (pieces p k) (pieces q k) ≡ true → i < k → are_held (p i) (q i) ≡ true
unfolding pieces
held_piece p q zero i e h l = absurd (omega arith)
held_piece p q (suc k) i e h l = by (cases_eq i k) (held_piece p q k i e)
  where
    parts : (are_held (pieces p k) (pieces q k) ≡ true) × (are_held (p k) (q k) ≡ true)
    parts = held_parts (pieces p k) (p k) (pieces q k) (q k) (length_pieces p q k (λ i l. e i)) h

    by : (i ≡ k) ⊎ (i ≡ k → ⊥) → (are_held (pieces p k) (pieces q k) ≡ true → i < k → are_held (p i) (q i) ≡ true) → are_held (p i) (q i) ≡ true
    by (inl same) below = rw same parts.1
    by (inr other) below = below parts.0 (omega (arith, other))

pub held_zeros : (k : ℕ) → are_held (zero_fields k) (zero_values k) ≡ true
held_zeros k = held_pieces (λ i. byte (Within 0 0) ∷ []) (λ i. 0 ∷ []) k (λ i l. refl)

-- one piece more is good
pub pieces_go : (bytes : List ℕ) (at place : ℕ) (p : ℕ → List Field) (i : ℕ) → at + size (pieces p i) ≡ place → first_bad bytes at (pieces p i) ≡ None → first_bad bytes place (p i) ≡ None → first_bad bytes at (pieces p (i + 1)) ≡ None
pieces_go bytes at place p i e h k = rw (more_pieces p i) (first_bad_after bytes at (pieces p i) (p i) h ∙ rw e k)

-- a piece that is bad spoils all
pub pieces_stop : (bytes : List ℕ) (at place : ℕ) (p : ℕ → List Field) (i k x : ℕ) → at + size (pieces p i) ≡ place → first_bad bytes at (pieces p i) ≡ None → first_bad bytes place (p i) ≡ Some x → i < k → first_bad bytes at (pieces p k) ≡ Some x
unfolding pieces
pieces_stop bytes at place p i zero x e h s l = absurd (omega arith)
pieces_stop bytes at place p i (suc k) x e h s l = by (cases_eq i k) (pieces_stop bytes at place p i k x e h s)
  where
    by : (i ≡ k) ⊎ (i ≡ k → ⊥) → (i < k → first_bad bytes at (pieces p k) ≡ Some x) → first_bad bytes at (pieces p k ++ p k) ≡ Some x
    by (inl same) below = rw (← same) (first_bad_after bytes at (pieces p i) (p i) h ∙ rw e s)
    by (inr other) below = first_bad_stop bytes at x (pieces p k) (p k) (below (omega (arith, other)))

-- a piece of good ones is good
pub piece_good : (bytes : List ℕ) (at place : ℕ) (p : ℕ → List Field) (k i : ℕ) → at + size (pieces p i) ≡ place → first_bad bytes at (pieces p k) ≡ None → i < k → first_bad bytes place (p i) ≡ None
unfolding pieces
piece_good bytes at place p zero i e h l = absurd (omega arith)
piece_good bytes at place p (suc k) i e h l = by (cases_eq i k) (piece_good bytes at place p k i e)
  where
    parts : (first_bad bytes at (pieces p k) ≡ None) × (first_bad bytes (at + size (pieces p k)) (p k) ≡ None)
    parts = first_bad_split bytes at (pieces p k) (p k) h

    by : (i ≡ k) ⊎ (i ≡ k → ⊥) → (first_bad bytes at (pieces p k) ≡ None → i < k → first_bad bytes place (p i) ≡ None) → first_bad bytes place (p i) ≡ None
    by (inl same) below = rw (← e, same) parts.1
    by (inr other) below = below parts.0 (omega (arith, other))

pub numbers_more : (bytes : List ℕ) (at place : ℕ) (p : ℕ → List Field) (i : ℕ) → at + size (pieces p i) ≡ place → numbers_at bytes at (pieces p (i + 1)) ≡ numbers_at bytes at (pieces p i) ++ numbers_at bytes place (p i)
numbers_more bytes at place p i e = rw (more_pieces p i) (numbers_append bytes at (pieces p i) (p i) ∙ ap (λ (n : ℕ). numbers_at bytes at (pieces p i) ++ numbers_at bytes n (p i)) e)

pub written_more : (p : ℕ → List Field) (q : ℕ → List ℕ) (i : ℕ) → ((i : ℕ) → length (p i) ≡ length (q i)) → written (pieces p (i + 1)) (pieces q (i + 1)) ≡ written (pieces p i) (pieces q i) ++ written (p i) (q i)
written_more p q i h = rw (more_pieces p i, more_pieces q i) (written_append (pieces p i) (p i) (pieces q i) (q i) (length_pieces p q i (λ i l. h i)))
