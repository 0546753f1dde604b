-- Where a scene's part ends, and on which line a journal is refused: within the bytes.
use Rattle.std.proofs.Common.{◌≡◌, ℕ, ◌+◌, ◌≤◌, Bool, true, false, List, [], ◌∷◌, length, drop, Result, Ok, Err, refl, sym, ap, ◌∙◌, arith, subst}
use Rattle.std.specs.Prelude.{if◌then◌else◌, codes, ◌==◌, IfErr, IfOk}
use Rattle.std.specs.Str.{bytes_eq}
use Rattle.dri_base.specs.declared.scene.Scene.{Scene}
use Rattle.dri_journal.specs.Readings.{entries_from, entry_of, journal_of_text, titled_from}
use Rattle.dri_scene.specs.Places.{is_end}
use Rattle.dri_scene.specs.Readings.{Gives, after_bytes, begun, opening, part_of, up_to_done}
use Rattle.dri_scene.specs.declared.fault.SceneFault.{SceneFault}
use Rattle.dri_scene.specs.declared.fault.SceneFault.TheVariants as scene_faults
use Rattle.dri_scene.specs.declared.part.Begun.{Begun}
use Rattle.dri_scene.specs.declared.part.Part.{Part}
use Rattle.dri_scene.specs.declared.reading.Reading.{Reading}
use Rattle.dri_words.specs.Lines.{◌>>=◌, at_line, ends, is_passed_over, text_size}
use Rattle.dri_words.specs.Parts.{is_nil, parts_at}
use Rattle.dri_words.specs.declared.lines.Refusal.{Refusal}
use Rattle.dri_words.specs.declared.reason.Reason.{Reason}
use Rattle.dri_words.proofs.TextSizes.{text_size_split}
use Rattle.dri_run.specs.Readings.{Spells, refusal, with_scene}

-- lines that are some have a byte at least
some_size : (lines : List (List ℕ)) → is_nil lines ≡ false → 1 ≤ text_size lines
some_size [] some = absurd (cc)
some_size (line ∷ more) some = omega arith

-- by cases of a test
if_ok : {A E : Type 0} (P : A → Type 0) (test : Bool) (held failed : Result A E) → (test ≡ true → IfOk held P) → (test ≡ false → IfOk failed P) → IfOk (if test then held else failed) P
if_ok P true held failed holds fails = holds refl
if_ok P false held failed holds fails = fails refl

if_err : {A E : Type 0} (P : E → Type 0) (test : Bool) (held failed : Result A E) → (test ≡ true → IfErr held P) → (test ≡ false → IfErr failed P) → IfErr (if test then held else failed) P
if_err P true held failed holds fails = holds refl
if_err P false held failed holds fails = fails refl

-- a step further
then_ok : {A B E : Type 0} (P : B → Type 0) (r : Result A E) (f : A → Result B E) → ((x : A) → IfOk (f x) P) → IfOk (r >>= f) P
then_ok P (Ok x) f all = all x
then_ok P (Err e) f all = tt

then_err : {A B E : Type 0} (P : E → Type 0) (r : Result A E) (f : A → Result B E) → IfErr r P → ((x : A) → IfErr (f x) P) → IfErr (r >>= f) P
then_err P (Ok x) f first all = all x
then_err P (Err e) f first all = first

after_ok : {A B E : Type 0} (P : A → Type 0) (Q : B → Type 0) (r : Result A E) (f : A → Result B E) → IfOk r P → ((x : A) → P x → IfOk (f x) Q) → IfOk (r >>= f) Q
after_ok P Q (Ok x) f first all = all x first
after_ok P Q (Err e) f first all = tt

-- what follows from the fact
weaker_ok : {A E : Type 0} (P Q : A → Type 0) (r : Result A E) → ((x : A) → P x → Q x) → IfOk r P → IfOk r Q
weaker_ok P Q (Ok x) follows holds = follows x holds
weaker_ok P Q (Err e) follows holds = tt

weaker_err : {A E : Type 0} (P Q : E → Type 0) (r : Result A E) → ((x : E) → P x → Q x) → IfErr r P → IfErr r Q
weaker_err P Q (Ok x) follows holds = tt
weaker_err P Q (Err e) follows holds = follows e holds

-- from line n at byte b on: the part ends before the lines do, and each line has a byte at least
record EndsWithin (n b : ℕ) (lines : List (List ℕ)) (g : Begun) : Type 0 where
  bytes : g.part.bytes + 1 ≤ b + text_size lines
  lines_counted : g.part.lines + b + 1 ≤ g.part.bytes + n

-- the line that is taken lies before those that are left
one_more : (n b k : ℕ) (line : List ℕ) (more : List (List ℕ)) (g : Begun) → k ≡ b + length line + 1 → EndsWithin (n + 1) k more g → EndsWithin n b (line ∷ more) g
one_more n b k line more g is rest = record { bytes = omega (arith, rest.bytes, is); lines_counted = omega (arith, rest.lines_counted, is) }

up_to : (n b : ℕ) (r : Reading) (lines : List (List ℕ)) → IfOk (up_to_done n b r lines) (EndsWithin n b lines)
up_to n b r [] = tt
up_to n b r (line ∷ more) =
    if_ok (EndsWithin n b (line ∷ more)) (is_nil more) _ _ (λ _. tt) (λ some.
    then_ok (EndsWithin n b (line ∷ more)) (at_line n (after_bytes r line)) _ (λ next.
    if_ok (EndsWithin n b (line ∷ more)) (is_end next.place) _ _
    (λ _. record { bytes = omega (arith, some_size more some); lines_counted = omega arith })
    (λ _. weaker_ok (EndsWithin (n + 1) (b + length line + 1) more) (EndsWithin n b (line ∷ more)) _ (λ g. one_more n b _ line more g refl) (up_to (n + 1) (b + length line + 1) next more))))

-- a scene's part lies in the bytes, and has no more lines than bytes
pub record IsPartOf (bytes : List ℕ) (p : Part) : Type 0 where
  pub within : p.bytes ≤ length bytes
  pub short : p.lines ≤ p.bytes

part_within : (bytes : List ℕ) → IfOk (part_of bytes) (λ (read : Scene × Part). IsPartOf bytes read.1)
unfolding part_of
part_within bytes =
    after_ok (EndsWithin 1 0 (parts_at 10 bytes)) (λ (read : Scene × Part). IsPartOf bytes read.1) (begun bytes) _ (up_to 1 0 opening (parts_at 10 bytes)) (λ g ends.
    record { within = omega (arith, ends.bytes, text_size_split (λ b. b == 10) bytes); short = omega (arith, ends.lines_counted) })

pub part_fits : (bytes : List ℕ) (scene : Scene) (p : Part) → part_of bytes ≡ Ok (scene, p) → IsPartOf bytes p
part_fits bytes scene p is = subst (λ r. IfOk r (λ (read : Scene × Part). IsPartOf bytes read.1)) is (part_within bytes)

-- what is made of a scene's part and of the bytes behind it
pub behind_part : {A : Type 0} (rest : Scene → ℕ → List ℕ → Result A Refusal) (bytes text : List ℕ) (read : Scene × Part) → part_of bytes ≡ Ok read → text ≡ drop read.1.bytes bytes → with_scene rest bytes ≡ rest read.0 read.1.lines text
behind_part rest bytes text read is same = ap (λ r. r >>= λ begun. rest begun.0 begun.1.lines (drop begun.1.bytes bytes)) is ∙ ap (rest read.0 read.1.lines) (sym same)

-- the scene is refused
pub part_refused : {A : Type 0} (rest : Scene → ℕ → List ℕ → Result A Refusal) (bytes : List ℕ) (fault : SceneFault) → Gives {A = Scene × Part} (Err fault) (part_of bytes) → Spells (Err (refusal fault)) (with_scene rest bytes)
part_refused rest bytes (scene_faults.Refused line reason) is = ap (λ r. r >>= λ begun. rest begun.0 begun.1.lines (drop begun.1.bytes bytes)) is
part_refused rest bytes scene_faults.OutOfMemory is = tt

-- from line n on: the line that is refused is at most one behind the last
abbrev IsLineWithin : ℕ → List (List ℕ) → Refusal → Type 0
IsLineWithin n lines refusal = refusal.line ≤ n + text_size lines

ends_within : (n : ℕ) (lines : List (List ℕ)) → IfErr (ends n lines) (IsLineWithin n lines)
ends_within n [] = omega arith
ends_within n (line ∷ more) =
    if_err (IsLineWithin n (line ∷ more)) (is_nil more) _ _
    (λ _. if_err (IsLineWithin n (line ∷ more)) (is_nil line) _ _ (λ _. tt) (λ _. omega arith))
    (λ _. if_err (IsLineWithin n (line ∷ more)) (is_passed_over line) _ _
    (λ _. weaker_err (IsLineWithin (n + 1) more) (IsLineWithin n (line ∷ more)) _ (λ r is. omega (arith, is)) (ends_within (n + 1) more))
    (λ _. omega arith))

at_line_within : {A : Type 0} (n : ℕ) (line : List ℕ) (more : List (List ℕ)) (r : Result A Reason) → IfErr (at_line n r) (IsLineWithin n (line ∷ more))
at_line_within n line more (Ok x) = tt
at_line_within n line more (Err reason) = omega arith

-- a line further
further : {A : Type 0} (n : ℕ) (line : List ℕ) (more : List (List ℕ)) (r : Result A Refusal) → IfErr r (IsLineWithin (n + 1) more) → IfErr r (IsLineWithin n (line ∷ more))
further n line more r is = weaker_err (IsLineWithin (n + 1) more) (IsLineWithin n (line ∷ more)) r (λ x within. omega (arith, within)) is

entries_within : (n : ℕ) (lines : List (List ℕ)) → IfErr (entries_from n lines) (IsLineWithin n lines)
entries_within n [] = omega arith
entries_within n (line ∷ more) =
    let P = IsLineWithin n (line ∷ more) in
    if_err P (is_nil more) _ _ (λ _. omega arith) (λ _.
    if_err P (is_passed_over line) _ _ (λ _. further n line more _ (entries_within (n + 1) more)) (λ _.
    if_err P (bytes_eq line (codes "done")) _ _
    (λ _. then_err P (ends (n + 1) more) _ (further n line more _ (ends_within (n + 1) more)) (λ _. tt))
    (λ _. then_err P (at_line n (entry_of line)) _ (at_line_within n line more (entry_of line)) (λ entry.
    then_err P (entries_from (n + 1) more) _ (further n line more _ (entries_within (n + 1) more)) (λ _. tt)))))

titled_within : (n : ℕ) (lines : List (List ℕ)) → IfErr (titled_from n lines) (IsLineWithin n lines)
titled_within n [] = omega arith
titled_within n (line ∷ more) =
    let P = IsLineWithin n (line ∷ more) in
    if_err P (is_nil more) _ _ (λ _. omega arith) (λ _.
    if_err P (is_passed_over line) _ _ (λ _. further n line more _ (titled_within (n + 1) more)) (λ _.
    if_err P (bytes_eq line (codes "journal 1")) _ _ (λ _. further n line more _ (entries_within (n + 1) more)) (λ _. omega arith)))

pub journal_line : (text : List ℕ) (r : Refusal) → journal_of_text text ≡ Err r → r.line ≤ length text + 2
unfolding journal_of_text
journal_line text r is =
    let within : r.line ≤ 1 + text_size (parts_at 10 text) = subst (λ read. IfErr read (IsLineWithin 1 (parts_at 10 text))) is (titled_within 1 (parts_at 10 text)) in
    omega (arith, within, text_size_split (λ b. b == 10) text)
