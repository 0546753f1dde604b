-- The entries that were read, before what the lines that are left lead to.
use Rattle.std.proofs.Common.{◌≡◌, List, [], ◌∷◌, ◌++◌, Result, Ok, Err, refl, sym, ap, append_assoc}
use Rattle.dri_base.specs.declared.journal.Entry.{Entry}
use Rattle.dri_words.specs.Lines.{◌>>=◌}
use Rattle.dri_words.specs.declared.lines.Refusal.{Refusal}

abbrev pub behind : List Entry → Result (List Entry) Refusal → Result (List Entry) Refusal
behind entries (Ok more) = Ok (entries ++ more)
behind entries (Err refusal) = Err refusal

pub behind_more : (entries : List Entry) (e : Entry) (r : Result (List Entry) Refusal) → behind entries (r >>= λ more. Ok (e ∷ more)) ≡ behind (entries ++ e ∷ []) r
behind_more entries e (Ok more) = ap Ok (sym (append_assoc entries (e ∷ []) more))
behind_more entries e (Err refusal) = refl
