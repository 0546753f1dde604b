-- What a frame drawn alone, or why it isn't there, says of the bytes.
use Rattle.std.proofs.Common.{◌≡◌, ℕ, zero, suc, ◌+◌, ◌≤◌, Bool, true, false, List, [], ◌∷◌, length, Option, Result, Ok, Err, refl, sym, ap, ◌∙◌, subst, arith, inl, inr}
use Rattle.std.specs.Prelude.{if◌then◌else◌, nat_lt, IfErr}
use Rattle.dri_base.specs.Ranges.{InRange}
use Rattle.dri_base.specs.declared.scene.Scene.{Scene}
use Rattle.dri_scene.specs.Places.{is_end}
use Rattle.dri_scene.specs.Readings.{Refusal, after_bytes, begun, opening, scene_of, up_to_done}
use Rattle.dri_scene.specs.declared.reading.Reading.{Reading}
use Rattle.dri_words.specs.Lines.{◌>>=◌, at_line, ends, is_passed_over}
use Rattle.dri_words.specs.Parts.{is_nil, parts_at}
use Rattle.dri_words.specs.declared.reason.Reason.{Reason}
use Rattle.dri_run.specs.FrameAlone.{DrawsAlone, HasNoImage, IsImageDecided, ReadsImage, answer_to_frame, frame_answer_to, frame_answer_to_text, has_frame}
use Rattle.dri_run.specs.Readings.{HasNone, IsDecided, IsTextOf, answer_to_text, most_text, scenes}
use Rattle.dri_run.proofs.Texts.{read_answer, refused_answer}
use Rattle.dri_run.specs.declared.status.Status.{Status}
use Rattle.dri_run.specs.declared.status.Status.TheVariants as answers

-- the line that is refused is n or comes after it
abbrev IsFrom : ℕ → Refusal → Type 0
IsFrom n refusal = n ≤ refusal.line

from_earlier : {A : Type 0} (n : ℕ) (r : Result A Refusal) → IfErr r (IsFrom (n + 1)) → IfErr r (IsFrom n)
from_earlier n (Ok x) is = tt
from_earlier n (Err refusal) is = omega (arith, is)

by_test : {A : Type 0} (n : ℕ) (test : Bool) (held failed : Result A Refusal) → IfErr held (IsFrom n) → IfErr failed (IsFrom n) → IfErr (if test then held else failed) (IsFrom n)
by_test n true held failed holds fails = holds
by_test n false held failed holds fails = fails

and_then : {A B : Type 0} (n : ℕ) (r : Result A Refusal) (f : A → Result B Refusal) → IfErr r (IsFrom n) → ((x : A) → IfErr (f x) (IsFrom n)) → IfErr (r >>= f) (IsFrom n)
and_then n (Ok x) f first all = all x
and_then n (Err refusal) f first all = first

at_n : {A : Type 0} (n : ℕ) (r : Result A Reason) → IfErr (at_line n r) (IsFrom n)
at_n n (Ok x) = tt
at_n n (Err reason) = omega arith

ends_from : (n : ℕ) (lines : List (List ℕ)) → IfErr (ends n lines) (IsFrom n)
ends_from n [] = omega arith
ends_from n (line ∷ more) =
    by_test n (is_nil more) _ _ (by_test n (is_nil line) _ _ tt (omega arith))
    (by_test n (is_passed_over line) _ _ (from_earlier n _ (ends_from (n + 1) more)) (omega arith))

done_from : (n b : ℕ) (r : Reading) (lines : List (List ℕ)) → IfErr (up_to_done n b r lines) (IsFrom n)
done_from n b r [] = omega arith
done_from n b r (line ∷ more) =
    by_test n (is_nil more) _ _ (omega arith)
    (and_then n (at_line n (after_bytes r line)) _ (at_n n (after_bytes r line)) (λ next.
    by_test n (is_end next.place) _ _ tt (from_earlier n _ (done_from (n + 1) (b + length line + 1) next more))))

one_from : {A : Type 0} (n : ℕ) (r : Result A Refusal) → 1 ≤ n → IfErr r (IsFrom n) → IfErr r (IsFrom 1)
one_from n (Ok x) counted is = tt
one_from n (Err refusal) counted is = omega (arith, is, counted)

-- lines count from 1
scene_line : (bytes : List ℕ) → IfErr (scene_of bytes) (IsFrom 1)
unfolding scene_of
scene_line bytes =
    and_then 1 (begun bytes) _ (done_from 1 0 opening (parts_at 10 bytes)) (λ b.
    and_then 1 (ends (b.part.lines + 1) b.rest) _ (one_from (b.part.lines + 1) _ (omega arith) (ends_from (b.part.lines + 1) b.rest)) (λ _. tt))

no_line_zero : (bytes : List ℕ) (reason : Reason) → scene_of bytes ≡ Err (record { line = 0; reason = reason }) → ⊥
no_line_zero bytes reason is = let counted : 1 ≤ 0 = subst (λ r. IfErr r (IsFrom 1)) is (scene_line bytes) in omega (arith, counted)

-- what has no scene has no picture
pub no_image : (c k : ℕ) (status : Status) (given : List ℕ) (left : Option (List ℕ)) → HasNone scenes status given left → HasNoImage c k status given left
no_image c k (answers.Refused zero reason) given left none = absurd (no_line_zero given reason none.refused)
no_image c k (answers.Refused (suc line) reason) given left none = none
no_image c k (answers.NotARun entry) given left none = none
no_image c k answers.Done given left none = none
no_image c k answers.Usage given left none = none
no_image c k answers.TooLong given left none = none
no_image c k answers.ReadFault given left none = none
no_image c k answers.WriteFault given left none = none
no_image c k answers.OutOfMemory given left none = none

-- and its refusal is the answer
same_refusal : (c k : ℕ) (status : Status) (long : Bool) (read : Result Scene Refusal) → (status ≡ answers.Done → ⊥) → status ≡ (if long then answers.TooLong else answer_to_text read) → status ≡ (if long then answers.TooLong else frame_answer_to_text c k read)
same_refusal c k status true read undone is = is
same_refusal c k status false (Err refusal) undone is = is
same_refusal c k status false (Ok scene) undone is = absurd (undone is)

pub undrawn : (c k : ℕ) (status : Status) (given bytes : List ℕ) (left : Option (List ℕ)) → HasNone scenes status given left → IsDecided scenes (Err status) bytes → IsImageDecided c k (Err status) bytes
undrawn c k status given bytes left none decided = elim (refused_answer scenes status bytes decided) as (λ _. IsImageDecided c k (Err status) bytes) [
  | inl refused ↦ inl (same_refusal c k status (nat_lt most_text (length bytes)) (scene_of bytes) (λ done. subst (λ s. HasNone scenes s given left) done none) refused)
  | inr short ↦ inr short
]

-- the scene of the bytes has the frame's picture, or hasn't the frame
pub drawn_read : (c k : ℕ) (result : Result (List ℕ) Status) (scene : Scene) (given : List ℕ) (left : Option (List ℕ)) → IsTextOf scenes scene given left → DrawsAlone c k result scene → ReadsImage c k result given left
drawn_read c k (Ok image) scene given left text drawn = record {
  read = text.read;
  is = record { scene = scene; spelled = text.spelled; in_range = text.in_range; there = drawn.0; alone = drawn.1 };
}
drawn_read c k (Err (answers.Refused zero reason)) scene given left text missing = (missing.1, record { scene = scene; text = text; missing = missing.2 })
drawn_read c k (Err (answers.Refused (suc line) reason)) scene given left text missing = absurd (let wrong : suc line ≡ 0 = missing.0 in omega (arith, wrong))
drawn_read c k (Err answers.OutOfMemory) scene given left text short = tt
drawn_read c k (Err answers.Done) scene given left text wrong = absurd wrong
drawn_read c k (Err answers.Usage) scene given left text wrong = absurd wrong
drawn_read c k (Err answers.TooLong) scene given left text wrong = absurd wrong
drawn_read c k (Err answers.ReadFault) scene given left text wrong = absurd wrong
drawn_read c k (Err answers.WriteFault) scene given left text wrong = absurd wrong
drawn_read c k (Err (answers.NotARun entry)) scene given left text wrong = absurd wrong

-- and the answer to a scene is whether it has the frame
to_frame : (c k : ℕ) (scene : Scene) (long : Bool) (read : Result Scene Refusal) → read ≡ Ok scene → (if long then answers.TooLong else answer_to_text read) ≡ answers.Done →
    (if long then answers.TooLong else frame_answer_to_text c k read) ≡ answer_to_frame (has_frame c k scene)
to_frame c k scene true read is done = absurd (cc)
to_frame c k scene false read is done = ap (frame_answer_to_text c k) is

frame_answer : (c k : ℕ) (scene : Scene) (bytes : List ℕ) → IsDecided scenes (Ok scene) bytes → frame_answer_to c k bytes ≡ answer_to_frame (has_frame c k scene)
frame_answer c k scene bytes decided = to_frame c k scene (nat_lt most_text (length bytes)) (scene_of bytes) decided.1 (read_answer scenes scene bytes decided)

pub drawn_decided : (c k : ℕ) (result : Result (List ℕ) Status) (scene : Scene) (bytes : List ℕ) → InRange scene → IsDecided scenes (Ok scene) bytes → DrawsAlone c k result scene → IsImageDecided c k result bytes
drawn_decided c k (Ok image) scene bytes in_range decided drawn =
    (record { scene = scene; spelled = decided.1; in_range = in_range; there = drawn.0; alone = drawn.1 }, frame_answer c k scene bytes decided ∙ ap answer_to_frame drawn.0)
drawn_decided c k (Err (answers.Refused line reason)) scene bytes in_range decided missing =
    inl (ap (λ n. answers.Refused n reason) missing.0 ∙ ap (answers.Refused 0) missing.1 ∙ sym (frame_answer c k scene bytes decided ∙ ap answer_to_frame missing.2))
drawn_decided c k (Err answers.OutOfMemory) scene bytes in_range decided short = inr refl
drawn_decided c k (Err answers.Done) scene bytes in_range decided wrong = absurd wrong
drawn_decided c k (Err answers.Usage) scene bytes in_range decided wrong = absurd wrong
drawn_decided c k (Err answers.TooLong) scene bytes in_range decided wrong = absurd wrong
drawn_decided c k (Err answers.ReadFault) scene bytes in_range decided wrong = absurd wrong
drawn_decided c k (Err answers.WriteFault) scene bytes in_range decided wrong = absurd wrong
drawn_decided c k (Err (answers.NotARun entry)) scene bytes in_range decided wrong = absurd wrong
