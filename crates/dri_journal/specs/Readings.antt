-- What a text leads to: line by line, a journal or the first refusal.
use Rattle.std.specs.Prelude.{◌≡◌, ℕ, ◌+◌, List, [], ◌∷◌, if◌then◌else◌, Result, Ok, Err, codes}
use Rattle.std.specs.Str.{bytes_eq}
use Rattle.dri_base.specs.declared.journal.Entry.{Entry}
use Rattle.dri_journal.specs.Forms.{entry_in, form_of}
use Rattle.dri_journal.specs.declared.fault.JournalFault.{JournalFault}
use Rattle.dri_journal.specs.declared.fault.JournalFault.TheVariants as faults
use Rattle.dri_words.specs.Lines.{◌>>=◌, at_line, ends, is_passed_over, or_else}
use Rattle.dri_words.specs.Parts.{parts_at, is_nil}
use Rattle.dri_words.specs.declared.lines.Refusal.{Refusal}
use Rattle.dri_words.specs.declared.reason.Reason.{Reason}
use Rattle.dri_words.specs.declared.reason.Reason.TheVariants as reasons

-- the entry of a line: its form, and then its ranges
unfoldable pub entry_of : List ℕ → Result Entry Reason
entry_of line = do
  form ← or_else reasons.Shape (form_of (parts_at 32 line))
  or_else reasons.Range (entry_in form)

-- from line n on: the entries up to done, and the end. The last part, behind the last newline, is no line
abbrev pub entries_from : ℕ → List (List ℕ) → Result (List Entry) Refusal
entries_from n [] = Err record { line = n; reason = reasons.Ended }
entries_from n (line ∷ more) =
    if is_nil more then Err record { line = n; reason = reasons.Ended }
    else if is_passed_over line then entries_from (n + 1) more
    else if bytes_eq line (codes "done") then (ends (n + 1) more >>= λ end. Ok [])
    else (at_line n (entry_of line) >>= λ entry.
    entries_from (n + 1) more >>= λ entries.
    Ok (entry ∷ entries))

-- from line n on: the title, and then the entries
abbrev pub titled_from : ℕ → List (List ℕ) → Result (List Entry) Refusal
titled_from n [] = Err record { line = n; reason = reasons.Ended }
titled_from n (line ∷ more) =
    if is_nil more then Err record { line = n; reason = reasons.Ended }
    else if is_passed_over line then titled_from (n + 1) more
    else if bytes_eq line (codes "journal 1") then entries_from (n + 1) more
    else Err record { line = n; reason = reasons.Shape }

-- the journal that a text spells, or the first line that is refused
unfoldable pub journal_of_text : List ℕ → Result (List Entry) Refusal
journal_of_text text = titled_from 1 (parts_at 10 text)

-- a text gives what the definition says, unless memory ran out
abbrev pub Gives : Result (List Entry) JournalFault → Result (List Entry) Refusal → Type 0
Gives (Ok entries) read = read ≡ Ok entries
Gives (Err (faults.Refused line reason)) read = read ≡ Err (record { line = line; reason = reason })
Gives (Err faults.OutOfMemory) read = Unit {0}
