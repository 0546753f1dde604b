-- A journal's text: one line for each entry.
use Rattle.std.specs.Prelude.{ℕ, ◌^◌, ◌<◌, List, [], ◌∷◌, ◌++◌, codes, All}
use Rattle.std.specs.List.{flat_map}
use Rattle.std.specs.Fmt.{decimal}
use Rattle.dri_base.specs.declared.journal.Entry.{Entry}
use Rattle.dri_base.specs.declared.journal.Entry.TheVariants as entries
use Rattle.dri_base.specs.Ranges.{IsWithin}

-- a number with a space before it
abbrev pub spaced : ℕ → List ℕ
spaced n = 32 ∷ decimal n

-- a line: a word, then numbers
abbrev pub numbered : List ℕ → List ℕ → List ℕ
numbered word numbers = word ++ (flat_map spaced numbers ++ (10 ∷ []))

-- the word of an entry's line
abbrev pub entry_word : Entry → List ℕ
entry_word (entries.Light client) = codes "light"
entry_word (entries.Kernel client found) = codes "kernel"
entry_word (entries.Stale client) = codes "stale"
entry_word (entries.Emit client groups) = codes "emit"
entry_word (entries.Place client texture first count) = codes "place"
entry_word (entries.Run client place) = codes "run"
entry_word (entries.Leave client) = codes "leave"
entry_word (entries.Info client) = codes "info"
entry_word (entries.Change place) = codes "change"
entry_word (entries.Gone client) = codes "gone"

-- its numbers, in order
abbrev pub entry_numbers : Entry → List ℕ
entry_numbers (entries.Light client) = client ∷ []
entry_numbers (entries.Kernel client found) = client ∷ found ∷ []
entry_numbers (entries.Stale client) = client ∷ []
entry_numbers (entries.Emit client groups) = client ∷ groups ∷ []
entry_numbers (entries.Place client texture first count) = client ∷ texture ∷ first ∷ count ∷ []
entry_numbers (entries.Run client place) = client ∷ place ∷ []
entry_numbers (entries.Leave client) = client ∷ []
entry_numbers (entries.Info client) = client ∷ []
entry_numbers (entries.Change place) = place ∷ []
entry_numbers (entries.Gone client) = client ∷ []

-- the line of an entry
abbrev pub entry_line : Entry → List ℕ
entry_line e = numbered (entry_word e) (entry_numbers e)

-- the journal's title, its entries, and done
abbrev pub journal_text : List Entry → List ℕ
journal_text journal = codes "journal 1\n" ++ (flat_map entry_line journal ++ codes "done\n")

-- each number of an entry is one of 32 bits
abbrev pub FitsWords : Entry → Type 0
FitsWords e = All (λ n. n < 2 ^ 32) (entry_numbers e)

-- the numbers of an entry are in the ranges of its line
abbrev pub EntryInRange : Entry → Type 0
EntryInRange (entries.Light client) = IsWithin 1 32 client
EntryInRange (entries.Kernel client found) = IsWithin 1 32 client × IsWithin 0 33 found
EntryInRange (entries.Stale client) = IsWithin 1 32 client
EntryInRange (entries.Emit client groups) = IsWithin 1 32 client × IsWithin 1 127 groups
EntryInRange (entries.Place client texture first count) = IsWithin 1 32 client × IsWithin 1 64 texture × IsWithin 0 63 first × IsWithin 1 64 count
EntryInRange (entries.Run client place) = IsWithin 1 32 client × IsWithin 1 100000 place
EntryInRange (entries.Leave client) = IsWithin 1 32 client
EntryInRange (entries.Info client) = IsWithin 1 32 client
EntryInRange (entries.Change place) = IsWithin 1 4096 place
EntryInRange (entries.Gone client) = IsWithin 1 32 client
