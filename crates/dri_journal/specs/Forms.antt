-- The forms of an entry's line, each a reading of its words, with the numbers as they are written; and an entry, a form whose
-- numbers are in their ranges.
use Rattle.std.specs.Prelude.{ℕ, ℤ, List, codes, if◌then◌else◌, Some, None}
use Rattle.std.specs.Str.{bytes_eq}
use Rattle.std.specs.declared.option.Option.{Option}
use Rattle.dri_base.specs.declared.journal.Entry.{Entry}
use Rattle.dri_base.specs.declared.journal.Entry.TheVariants as entries
use Rattle.dri_journal.specs.declared.form.Form.{Form}
use Rattle.dri_journal.specs.declared.form.Form.TheVariants as forms
use Rattle.dri_words.specs.Ranges.{within}
use Rattle.dri_words.specs.Words.{◌>>=◌, word_at, number_at, alone}

-- two numbers
unfoldable pub two_of : (ℤ → ℤ → Form) → List (List ℕ) → Option Form
two_of form fields = do
  a ← number_at fields
  b ← number_at a.1
  alone (form a.0 b.0) b.1

-- four numbers
unfoldable pub four_of : (ℤ → ℤ → ℤ → ℤ → Form) → List (List ℕ) → Option Form
four_of form fields = do
  a ← number_at fields
  b ← number_at a.1
  c ← number_at b.1
  d ← number_at c.1
  alone (form a.0 b.0 c.0 d.0) d.1

-- a form of one number, by its first word
unfoldable pub single_form : List ℕ → ℤ → Option Form
single_form name n =
    if bytes_eq name (codes "light") then Some (forms.Light n)
    else if bytes_eq name (codes "stale") then Some (forms.Stale n)
    else if bytes_eq name (codes "leave") then Some (forms.Leave n)
    else if bytes_eq name (codes "info") then Some (forms.Info n)
    else if bytes_eq name (codes "change") then Some (forms.Change n)
    else if bytes_eq name (codes "gone") then Some (forms.Gone n)
    else None

-- a line of one number
unfoldable pub single_of : List ℕ → List (List ℕ) → Option Form
single_of name fields = do
  a ← number_at fields
  form ← single_form name a.0
  alone form a.1

-- a line of two or four numbers, by its first word, or else of one
unfoldable pub line_of : List ℕ → List (List ℕ) → Option Form
line_of name fields =
    if bytes_eq name (codes "kernel") then two_of forms.Kernel fields
    else if bytes_eq name (codes "emit") then two_of forms.Emit fields
    else if bytes_eq name (codes "run") then two_of forms.Run fields
    else if bytes_eq name (codes "place") then four_of forms.Place fields
    else single_of name fields

-- the form of a line's words
unfoldable pub form_of : List (List ℕ) → Option Form
form_of words = do
  name ← word_at words
  line_of name.0 name.1

-- a client: 1 to 32
abbrev pub client_in : ℤ → Option ℕ
client_in n = within 1 32 n

-- the texture 1 to 64, the first region 0 to 63, the count 1 to 64
unfoldable pub place_in : ℤ → ℤ → ℤ → ℤ → Option Entry
place_in c t f n = do
  client ← client_in c
  texture ← within 1 64 t
  first ← within 0 63 f
  count ← within 1 64 n
  Some (entries.Place client texture first count)

-- the entry of a form whose numbers are in their ranges: a context 0 to 33, groups 1 to 127, a command 1 to 100,000, a change 1 to 4,096
unfoldable pub entry_in : Form → Option Entry
entry_in (forms.Light c) = client_in c >>= λ client. Some (entries.Light client)
entry_in (forms.Stale c) = client_in c >>= λ client. Some (entries.Stale client)
entry_in (forms.Leave c) = client_in c >>= λ client. Some (entries.Leave client)
entry_in (forms.Info c) = client_in c >>= λ client. Some (entries.Info client)
entry_in (forms.Gone c) = client_in c >>= λ client. Some (entries.Gone client)
entry_in (forms.Kernel c x) = client_in c >>= λ client. within 0 33 x >>= λ found. Some (entries.Kernel client found)
entry_in (forms.Emit c g) = client_in c >>= λ client. within 1 127 g >>= λ groups. Some (entries.Emit client groups)
entry_in (forms.Run c i) = client_in c >>= λ client. within 1 100000 i >>= λ place. Some (entries.Run client place)
entry_in (forms.Change i) = within 1 4096 i >>= λ place. Some (entries.Change place)
entry_in (forms.Place c t f n) = place_in c t f n
