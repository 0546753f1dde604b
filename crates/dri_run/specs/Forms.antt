-- The words of the command line.
use Rattle.std.specs.Prelude.{List, [], ◌∷◌, ℕ, Bool, false, map, codes, if◌then◌else◌, Option, Some, None}
use Rattle.std.specs.Str.{bytes_eq}
use Rattle.std.specs.String.{string_bytes}
use Rattle.std.specs.declared.string.String.{String}
use Rattle.std.specs.declared.alloc.Global.{Global}
use Rattle.dri_base.specs.Limits.{most_commands}
use Rattle.dri_base.specs.Ranges.{IsWithin}
use Rattle.dri_words.specs.Parts.{parts_at}
use Rattle.dri_words.specs.Ranges.{within}
use Rattle.dri_words.specs.Words.{◌>>=◌, alone, number_at}
use Rattle.dri_run.specs.declared.form.Form.{Form}
use Rattle.dri_run.specs.declared.form.Form.TheVariants.{Scheduled, Grouped, Replayed, Solo, Make}
use Rattle.dri_run.specs.declared.form.Replaying.{Replaying}
use Rattle.dri_run.specs.declared.form.Replaying.TheVariants.{Check, Flip, Ring, Sixteen}
use Rattle.dri_run.specs.declared.form.Shown.TheVariants.{Turns, Sarea}

-- a ring has room for 1 to 64 jobs
abbrev pub IsReplayingRanged : Replaying → Type 0
IsReplayingRanged (Ring room) = IsWithin 1 64 room
IsReplayingRanged _ = Unit {0}

-- and a scene is made of 1 to 32 clients
abbrev pub IsFormRanged : Form → Type 0
IsFormRanged (Replayed word) = IsReplayingRanged word
IsFormRanged (Make n) = IsWithin 1 32 n
IsFormRanged _ = Unit {0}

-- the number from low to high that a word spells, as a text has it: without leading zeros
abbrev pub number_in : ℕ → ℕ → List ℕ → Option ℕ
number_in low high word = do
  read ← number_at (parts_at 32 word)
  number ← alone read.0 read.1
  within low high number

-- the form of one word
abbrev pub form_of_word : List ℕ → Option Form
form_of_word word =
    if bytes_eq word (codes "turns") then Some (Scheduled Turns)
    else if bytes_eq word (codes "sarea") then Some (Scheduled Sarea)
    else if bytes_eq word (codes "check") then Some (Replayed Check)
    else if bytes_eq word (codes "flip") then Some (Replayed Flip)
    else if bytes_eq word (codes "card16") then Some (Replayed Sixteen)
    else if bytes_eq word (codes "many") then Some Grouped
    else None

-- a scene of so many clients is made
abbrev pub make_form : List ℕ → Option Form
make_form count = number_in 1 32 count >>= λ n. Some (Make n)

-- a ring has room for so many jobs
abbrev pub ring_form : List ℕ → Option Form
ring_form count = number_in 1 64 count >>= λ n. Some (Replayed (Ring n))

-- the form of a word with a number behind it
abbrev pub counted_form : List ℕ → List ℕ → Option Form
counted_form word count =
    if bytes_eq word (codes "make") then make_form count
    else if bytes_eq word (codes "ring") then ring_form count
    else None

-- a client and its frame; there are no more frames than commands
abbrev pub solo_form : List ℕ → List ℕ → Option Form
solo_form client frame = number_in 1 32 client >>= λ c. number_in 1 most_commands frame >>= λ k. Some (Solo c k)

-- the form of these words: one word alone, or one with its numbers behind it
abbrev pub form_of_words : List (List ℕ) → Option Form
form_of_words (word ∷ []) = form_of_word word
form_of_words (word ∷ count ∷ []) = counted_form word count
form_of_words (word ∷ client ∷ frame ∷ []) = if bytes_eq word (codes "solo") then solo_form client frame else None
form_of_words _ = None

-- the form of the words of a command line
abbrev pub form_of : List (String Global) → Option Form
form_of words = form_of_words (map string_bytes words)

-- these words are the one word run
abbrev pub are_run : List (List ℕ) → Bool
are_run [] = false
are_run (word ∷ []) = bytes_eq word (codes "run")
are_run (word ∷ other ∷ words) = false

-- the words of a command line are the one word run
abbrev pub is_run : List (String Global) → Bool
is_run words = are_run (map string_bytes words)
