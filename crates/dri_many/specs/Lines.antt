-- The lines of a block, each a reading of its words: its form, with the numbers as they are written, and then the numbers in
-- their range.
use Rattle.std.specs.Prelude.{ℕ, ℤ, List, [], ◌∷◌, length, ◌&&◌, nat_le, codes, if◌then◌else◌, Some, None}
use Rattle.std.specs.Str.{bytes_eq}
use Rattle.std.specs.declared.option.Option.{Option}
use Rattle.dri_words.specs.Ranges.{within}
use Rattle.dri_words.specs.Words.{◌>>=◌, alone, number_at, signed_of, word_at}
use Rattle.dri_many.specs.Groupings.{least_members, most_members}

-- the numbers that words spell, where each spells one
abbrev pub numbers_of : List (List ℕ) → Option (List ℤ)
numbers_of [] = Some []
numbers_of (word ∷ more) = signed_of word >>= λ number. numbers_of more >>= λ numbers. Some (number ∷ numbers)

-- as many numbers as a group has members
abbrev pub sized : List ℤ → Option (List ℤ)
sized numbers = if nat_le least_members (length numbers) && nat_le (length numbers) most_members then Some numbers else None

-- the words behind a line's first, where that is the name
unfoldable pub named : List ℕ → List (List ℕ) → Option (List (List ℕ))
named name words = do
  first ← word_at words
  if bytes_eq first.0 name then Some first.1 else None

-- the word group, and 2 to 8 numbers
unfoldable pub group_form : List (List ℕ) → Option (List ℤ)
group_form words = do
  fields ← named (codes "group") words
  numbers ← numbers_of fields
  sized numbers

-- the word current, and a number
unfoldable pub current_form : List (List ℕ) → Option ℤ
current_form words = do
  fields ← named (codes "current") words
  number ← number_at fields
  alone number.0 number.1

-- a client: 1 to 32
abbrev pub client_in : ℤ → Option ℕ
client_in number = within 1 32 number

-- the clients, where each number is that of one
abbrev pub clients_in : List ℤ → Option (List ℕ)
clients_in [] = Some []
clients_in (number ∷ more) = client_in number >>= λ client. clients_in more >>= λ clients. Some (client ∷ clients)
