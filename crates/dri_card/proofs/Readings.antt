-- A buffer that is read as one triangle.
use Rattle.std.proofs.Common.{◌≡◌, ℕ, List, [], ◌∷◌, All, Bool, true, false, Ok, Err, sym, ap, ◌∙◌}
use Rattle.std.specs.declared.result.Result.{Result}
use Rattle.std.proofs.lemmas.Bool.{true≢false}
use Rattle.std.proofs.lemmas.List.{append-nil}
use Rattle.std.proofs.lemmas.List.Elements.{All-cons, All-nil}
use Rattle.dri_base.specs.declared.shape.Triangle.{Triangle}
use Rattle.dri_model.specs.CommandWords.{IsTriangle, buffer_words, triangle_words}

-- the triangle alone is in range
pub one_triangle : (t : Triangle) → IsTriangle t → All IsTriangle (t ∷ [])
one_triangle t it = All-cons IsTriangle t [] it (All-nil IsTriangle)

-- its words are a buffer's
pub one_word_list : (words : List ℕ) (t : Triangle) → words ≡ triangle_words t → words ≡ buffer_words (t ∷ [])
one_word_list words t is = is ∙ sym (append-nil (triangle_words t))

-- an answer, and a refusal
abbrev pub okay : {A B : Type 0} → A → Result A B
okay x = Ok x

abbrev pub refused : {A B : Type 0} → B → Result A B
refused e = Err e

-- what was read, where it is known
pub ok_same : {A B : Type 0} (x y : A) → okay {A = A} {B = B} x ≡ okay y → x ≡ y
ok_same {A = A} {B = B} x y e = ap from e where
  from : Result A B → A
  from (Ok v) = v
  from (Err v) = x

-- what was refused isn't read
pub err_ok : {A B : Type 0} (e : B) (x : A) → refused {A = A} {B = B} e ≡ okay x → ⊥
err_ok {A = A} {B = B} e x is = true≢false (sym (ap is_ok is)) where
  is_ok : Result A B → Bool
  is_ok (Ok v) = true
  is_ok (Err v) = false
