-- Lines of a text. Each is ended by one newline, so the text's parts round its newlines are the lines, and last what stands
-- behind the last newline, which is no line.
use Rattle.std.specs.Prelude.{ℕ, ◌+◌, List, [], ◌∷◌, ◌++◌, length, Bool, true, ◌==◌, if◌then◌else◌, Some, None, Result, Ok, Err}
use Rattle.std.specs.declared.option.Option.{Option}
use Rattle.dri_words.specs.Parts.{is_nil}
use Rattle.dri_words.specs.declared.lines.Refusal.{Refusal}
use Rattle.dri_words.specs.declared.reason.Reason.{Reason}
use Rattle.dri_words.specs.declared.reason.Reason.TheVariants as reasons

-- the next step, where this one wasn't refused
infixl 10 ◌>>=◌
abbrev pub ◌>>=◌ : {A B E : Type 0} → Result A E → (A → Result B E) → Result B E
(Ok x) >>= f = f x
(Err e) >>= f = Err e

-- the value, where it is there; else the reason
abbrev pub or_else : {A : Type 0} → Reason → Option A → Result A Reason
or_else reason None = Err reason
or_else reason (Some x) = Ok x

-- a refusal of line n
abbrev pub at_line : {A : Type 0} → ℕ → Result A Reason → Result A Refusal
at_line n (Ok x) = Ok x
at_line n (Err reason) = Err record { line = n; reason = reason }

-- a line that is empty or begins with # is passed over
abbrev pub is_passed_over : List ℕ → Bool
is_passed_over [] = true
is_passed_over (b ∷ bs) = b == 35

-- the bytes of these lines, with a newline behind each
abbrev pub text_size : List (List ℕ) → ℕ
text_size [] = 0
text_size (line ∷ more) = length line + 1 + text_size more

-- from line n on: only lines that are passed over, and nothing behind the last newline
abbrev pub ends : ℕ → List (List ℕ) → Result (Unit {0}) Refusal
ends n [] = Err record { line = n; reason = reasons.Ended }
ends n (line ∷ more) =
    if is_nil more then (if is_nil line then Ok tt else Err record { line = n; reason = reasons.Ended })
    else if is_passed_over line then ends (n + 1) more
    else Err record { line = n; reason = reasons.Shape }

-- words, each behind a space, and a newline
abbrev pub words_bytes : List (List ℕ) → List ℕ
words_bytes [] = 10 ∷ []
words_bytes (word ∷ more) = 32 ∷ (word ++ words_bytes more)

-- a line: its words with one space between two, and a newline
abbrev pub line_bytes : List (List ℕ) → List ℕ
line_bytes [] = 10 ∷ []
line_bytes (word ∷ more) = word ++ words_bytes more
