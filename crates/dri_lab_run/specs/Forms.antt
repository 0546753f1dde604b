-- The words of the command line.
use Rattle.std.specs.Prelude.{List, [], ◌∷◌, ℕ, map, codes, if◌then◌else◌, Option, Some, None}
use Rattle.std.specs.Str.{bytes_eq}
use Rattle.std.specs.String.{string_bytes}
use Rattle.std.specs.declared.string.String.{String}
use Rattle.std.specs.declared.alloc.Global.{Global}
use Rattle.dri_words.specs.Words.{◌>>=◌}
use Rattle.dri_run.specs.Forms.{number_in}
use Rattle.dri_lab_run.specs.declared.form.Form.{Form}
use Rattle.dri_lab_run.specs.declared.form.Form.TheVariants.{Recorded, Events, All}
use Rattle.dri_lab_run.specs.declared.form.Look.TheVariants.{After, Pixel}

-- so many entries of a journal, of which it has fewer than 2 ^ 32
abbrev pub after_form : List ℕ → Option Form
after_form count = number_in 0 4294967295 count >>= λ entries. Some (Recorded (After entries))

-- so many events at most
abbrev pub all_form : List ℕ → Option Form
all_form count = number_in 0 4294967295 count >>= λ events. Some (All events)

-- the form of a word with a number behind it
abbrev pub counted_form : List ℕ → List ℕ → Option Form
counted_form word count = if bytes_eq word (codes "after") then after_form count else if bytes_eq word (codes "all") then all_form count else None

-- a column and a row of a screen, which has at most 1,024 of each
abbrev pub pixel_form : List ℕ → List ℕ → Option Form
pixel_form column row = number_in 0 1023 column >>= λ x. number_in 0 1023 row >>= λ y. Some (Recorded (Pixel x y))

-- the form of these words: one word alone, or one with its numbers behind it
abbrev pub form_of_words : List (List ℕ) → Option Form
form_of_words (word ∷ []) = if bytes_eq word (codes "events") then Some Events else None
form_of_words (word ∷ count ∷ []) = counted_form word count
form_of_words (word ∷ column ∷ row ∷ []) = if bytes_eq word (codes "pixel") then pixel_form column row else None
form_of_words _ = None

-- the form of the words of a command line
abbrev pub form_of : List (String Global) → Option Form
form_of words = form_of_words (map string_bytes words)
