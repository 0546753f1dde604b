-- What a writer has put so far.
use Rattle.std.proofs.Common.{◌≡◌, ◌<◌, ◌+◌, ◌^◌, ℕ, suc, List, ◌∷◌, ◌++◌, length, drop, get_or, true, arith, sym, ◌∙◌, ap, append_assoc}
use Rattle.std.specs.Prelude.{nat_lt}
use Rattle.std.proofs.lemmas.Bool.{and_parts}
use Rattle.std.proofs.lemmas.Bool.Decides.{nat_tests}
use Rattle.std.proofs.lemmas.List.{append-nil}
use Rattle.std.proofs.Math.Seq.{drop-cons}
use Rattle.byteorder.specs.Endian.{little_bytes}
use Rattle.dri_sarea.specs.declared.layout.Field.{Field}
use Rattle.dri_sarea.specs.Layouts.{bytes_in, holds, pieces}
use Rattle.dri_sarea.specs.Images.{written, fits, are_held}
use Rattle.dri_sarea.proofs.Pieces.{written_more}

pub drop_next : {A : Type 0} (xs : List A) (i : ℕ) (d : A) → i < length xs → drop i xs ≡ get_or xs i d ∷ drop (i + 1) xs
drop_next xs i d l = let e : i + 1 ≡ suc i = omega arith in rw e (drop-cons xs i d l)

pub put_none : (out : List ℕ) (p : ℕ → List Field) (q : ℕ → List ℕ) → out ≡ out ++ written (pieces p 0) (pieces q 0)
unfolding pieces
put_none out p q = sym (append-nil out)

pub put_step : (out old : List ℕ) (fields : List Field) (values : List ℕ) (i v : ℕ) (f : Field) → drop i fields ≡ f ∷ drop (i + 1) fields → drop i values ≡ v ∷ drop (i + 1) values
    → out ++ written (drop i fields) (drop i values) ≡ old ++ written fields values → (out ++ little_bytes (bytes_in f.width) v) ++ written (drop (i + 1) fields) (drop (i + 1) values) ≡ old ++ written fields values
put_step out old fields values i v f d e h =
    append_assoc out (little_bytes (bytes_in f.width) v) (written (drop (i + 1) fields) (drop (i + 1) values))
    ∙ ap (λ (fs : List Field). out ++ written fs (v ∷ drop (i + 1) values)) (sym d) ∙ ap (λ (vs : List ℕ). out ++ written (drop i fields) vs) (sym e) ∙ h

pub held_here : (fields : List Field) (values : List ℕ) (i v : ℕ) (f : Field) → drop i fields ≡ f ∷ drop (i + 1) fields → drop i values ≡ v ∷ drop (i + 1) values → are_held (drop i fields) (drop i values) ≡ true
    → (v < 256 ^ bytes_in f.width) × (are_held (drop (i + 1) fields) (drop (i + 1) values) ≡ true)
held_here fields values i v f d e h =
    let g : are_held (f ∷ drop (i + 1) fields) (v ∷ drop (i + 1) values) ≡ true = ap (λ (fs : List Field). are_held fs (v ∷ drop (i + 1) values)) (sym d) ∙ ap (λ (vs : List ℕ). are_held (drop i fields) vs) (sym e) ∙ h in
    let p = and_parts (fits f v) (are_held (drop (i + 1) fields) (drop (i + 1) values)) g in
    let q = and_parts (nat_lt v (256 ^ bytes_in f.width)) (holds f.range v) p.0 in
    (less v (256 ^ bytes_in f.width) q.0, p.1)
  where
    less : (a b : ℕ) → nat_lt a b ≡ true → a < b
    less a b h = grind (arith, nat_tests)

pub piece_put : (out more old : List ℕ) (p : ℕ → List Field) (q : ℕ → List ℕ) (i : ℕ) → ((i : ℕ) → length (p i) ≡ length (q i)) → out ≡ old ++ written (pieces p i) (pieces q i) → more ≡ out ++ written (p i) (q i) → more ≡ old ++ written (pieces p (i + 1)) (pieces q (i + 1))
piece_put out more old p q i h e f =
    f ∙ ap (λ (xs : List ℕ). xs ++ written (p i) (q i)) e ∙ append_assoc old (written (pieces p i) (pieces q i)) (written (p i) (q i)) ∙ ap (λ (xs : List ℕ). old ++ xs) (sym (written_more p q i h))
