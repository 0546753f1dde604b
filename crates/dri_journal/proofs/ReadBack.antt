-- The printed text of entries whose numbers are in their ranges is read again.
use Rattle.std.proofs.Common.{◌≡◌, ℕ, ◌+◌, ◌<◌, ◌^◌, List, [], ◌∷◌, ◌++◌, map, true, false, All, Some, Ok, pos, refl, sym, ap, ◌∙◌, append_assoc, arith}
use Rattle.std.specs.Prelude.{codes}
use Rattle.std.specs.List.{flat_map, list_all}
use Rattle.std.specs.Fmt.{decimal}
use Rattle.std.specs.Str.{bytes_eq}
use Rattle.std.proofs.lemmas.List.Elements.{All-head, All-tail}
use Rattle.dri_base.specs.declared.journal.Entry.{Entry}
use Rattle.dri_base.specs.declared.journal.Entry.TheVariants as entries
use Rattle.dri_journal.specs.Forms.{entry_in, form_of, four_of, line_of, place_in, single_form, single_of, two_of}
use Rattle.dri_journal.specs.Journals.{EntryInRange, entry_line, entry_numbers, entry_word, journal_text, spaced}
use Rattle.dri_journal.specs.Readings.{entries_from, entry_of, journal_of_text, titled_from}
use Rattle.dri_journal.specs.declared.form.Form.{Form}
use Rattle.dri_journal.specs.declared.form.Form.TheVariants as forms
use Rattle.dri_words.specs.Lines.{is_passed_over, line_bytes, words_bytes}
use Rattle.dri_words.specs.Parts.{parts_at, is_nil}
use Rattle.dri_words.specs.Words.{number_at}
use Rattle.dri_words.proofs.PrintedNumbers.{decimal_word, kept}
use Rattle.dri_words.proofs.Splitting.{is_printed, is_word, split_lines, split_words}
use Rattle.dri_words.proofs.Splitting.{spaced as joined}
use Rattle.dri_words.proofs.Written.{number_there, unsigned_read}

-- the words of an entry's line
abbrev entry_words : Entry → List (List ℕ)
entry_words e = entry_word e ∷ map decimal (entry_numbers e)

numbered_words : (ns : List ℕ) → words_bytes (map decimal ns) ≡ flat_map spaced ns ++ 10 ∷ []
numbered_words [] = refl
numbered_words (n ∷ ns) = ap (λ t. 32 ∷ t) (ap (λ t. decimal n ++ t) (numbered_words ns) ∙ sym (append_assoc (decimal n) (flat_map spaced ns) (10 ∷ [])))

entry_line_words : (e : Entry) → entry_line e ≡ line_bytes (entry_words e)
entry_line_words e = ap (λ t. entry_word e ++ t) (sym (numbered_words (entry_numbers e)))

-- the lines of a journal's text, each as its words
abbrev done_words : List (List ℕ)
done_words = codes "done" ∷ []

abbrev lines_behind : List Entry → List (List (List ℕ))
lines_behind j = map entry_words j ++ done_words ∷ []

abbrev journal_lines : List Entry → List (List (List ℕ))
journal_lines j = (codes "journal" ∷ codes "1" ∷ []) ∷ lines_behind j

text_behind : (j : List Entry) → flat_map entry_line j ++ codes "done\n" ≡ flat_map line_bytes (lines_behind j)
text_behind [] = refl
text_behind (e ∷ j) =
    append_assoc (entry_line e) (flat_map entry_line j) (codes "done\n")
    ∙ ap (λ t. entry_line e ++ t) (text_behind j)
    ∙ ap (λ t. t ++ flat_map line_bytes (lines_behind j)) (entry_line_words e)

text_lines : (j : List Entry) → journal_text j ≡ flat_map line_bytes (journal_lines j)
text_lines j = ap (λ t. codes "journal 1\n" ++ t) (text_behind j)

-- the printed words are words
numbers_printed : (ns : List ℕ) → All (λ n. n < 2 ^ 32) ns → list_all is_word (map decimal ns) ≡ true
numbers_printed [] small = refl
numbers_printed (n ∷ ns) small =
    let here : n < 2 ^ 32 = All-head (λ n. n < 2 ^ 32) n ns small in
    rw (decimal_word n (omega (arith, here))) (numbers_printed ns (All-tail (λ n. n < 2 ^ 32) n ns small))

word_is_word : (e : Entry) → is_word (entry_word e) ≡ true
word_is_word (entries.Light client) = refl
word_is_word (entries.Kernel client found) = refl
word_is_word (entries.Stale client) = refl
word_is_word (entries.Emit client groups) = refl
word_is_word (entries.Place client texture first count) = refl
word_is_word (entries.Run client place) = refl
word_is_word (entries.Leave client) = refl
word_is_word (entries.Info client) = refl
word_is_word (entries.Change place) = refl
word_is_word (entries.Gone client) = refl

entry_printed : (e : Entry) → All (λ n. n < 2 ^ 32) (entry_numbers e) → is_printed (entry_words e) ≡ true
entry_printed e small = rw (word_is_word e) (numbers_printed (entry_numbers e) small)

behind_printed : (j : List Entry) → All (λ e. All (λ n. n < 2 ^ 32) (entry_numbers e)) j → list_all is_printed (lines_behind j) ≡ true
behind_printed [] small = refl
behind_printed (e ∷ j) small =
    let fits = λ (e : Entry). All (λ n. n < 2 ^ 32) (entry_numbers e) in
    rw (entry_printed e (All-head fits e j small)) (behind_printed j (All-tail fits e j small))

-- the lines behind the title, and behind them what follows the last newline
abbrev rest_lines : List Entry → List (List ℕ)
rest_lines [] = codes "done" ∷ [] ∷ []
rest_lines (e ∷ j) = joined (entry_words e) ∷ rest_lines j

rest_is : (j : List Entry) → map joined (lines_behind j) ++ [] ∷ [] ≡ rest_lines j
rest_is [] = refl
rest_is (e ∷ j) = ap (λ t. joined (entry_words e) ∷ t) (rest_is j)

some_rest : (j : List Entry) → is_nil (rest_lines j) ≡ false
some_rest [] = refl
some_rest (e ∷ j) = refl

-- an entry's line is neither passed over nor done
entry_kept : (e : Entry) → is_passed_over (joined (entry_words e)) ≡ false
entry_kept (entries.Light client) = refl
entry_kept (entries.Kernel client found) = refl
entry_kept (entries.Stale client) = refl
entry_kept (entries.Emit client groups) = refl
entry_kept (entries.Place client texture first count) = refl
entry_kept (entries.Run client place) = refl
entry_kept (entries.Leave client) = refl
entry_kept (entries.Info client) = refl
entry_kept (entries.Change place) = refl
entry_kept (entries.Gone client) = refl

not_done : (e : Entry) → bytes_eq (joined (entry_words e)) (codes "done") ≡ false
not_done (entries.Light client) = refl
not_done (entries.Kernel client found) = refl
not_done (entries.Stale client) = refl
not_done (entries.Emit client groups) = refl
not_done (entries.Place client texture first count) = refl
not_done (entries.Run client place) = refl
not_done (entries.Leave client) = refl
not_done (entries.Info client) = refl
not_done (entries.Change place) = refl
not_done (entries.Gone client) = refl

-- the form of an entry's line
abbrev written : Entry → Form
written (entries.Light client) = forms.Light (pos client)
written (entries.Kernel client found) = forms.Kernel (pos client) (pos found)
written (entries.Stale client) = forms.Stale (pos client)
written (entries.Emit client groups) = forms.Emit (pos client) (pos groups)
written (entries.Place client texture first count) = forms.Place (pos client) (pos texture) (pos first) (pos count)
written (entries.Run client place) = forms.Run (pos client) (pos place)
written (entries.Leave client) = forms.Leave (pos client)
written (entries.Info client) = forms.Info (pos client)
written (entries.Change place) = forms.Change (pos place)
written (entries.Gone client) = forms.Gone (pos client)

number_read : (n : ℕ) (ws : List (List ℕ)) → n < 2 ^ 32 → number_at (decimal n ∷ ws) ≡ Some (pos n, ws)
number_read n ws small = number_there (decimal n) ws (pos n) (unsigned_read n (omega (arith, small)))

single_read : (n : ℕ) → All (λ n. n < 2 ^ 32) (n ∷ []) → number_at (decimal n ∷ []) ≡ Some (pos n, [])
single_read n small = number_read n [] (All-head (λ n. n < 2 ^ 32) n [] small)

form_read : (e : Entry) → All (λ n. n < 2 ^ 32) (entry_numbers e) → form_of (entry_words e) ≡ Some (written e)
unfolding form_of line_of single_of single_form two_of four_of
form_read (entries.Light client) small = rw (single_read client small) refl
form_read (entries.Kernel client found) small = rw (number_read client (decimal found ∷ []) (All-head (λ n. n < 2 ^ 32) client (found ∷ []) small), single_read found (All-tail (λ n. n < 2 ^ 32) client (found ∷ []) small)) refl
form_read (entries.Stale client) small = rw (single_read client small) refl
form_read (entries.Emit client groups) small = rw (number_read client (decimal groups ∷ []) (All-head (λ n. n < 2 ^ 32) client (groups ∷ []) small), single_read groups (All-tail (λ n. n < 2 ^ 32) client (groups ∷ []) small)) refl
form_read (entries.Place client texture first count) small =
    let behind_client = All-tail (λ n. n < 2 ^ 32) client (texture ∷ first ∷ count ∷ []) small in
    let behind_texture = All-tail (λ n. n < 2 ^ 32) texture (first ∷ count ∷ []) behind_client in
    rw (
      number_read client (decimal texture ∷ decimal first ∷ decimal count ∷ []) (All-head (λ n. n < 2 ^ 32) client (texture ∷ first ∷ count ∷ []) small),
      number_read texture (decimal first ∷ decimal count ∷ []) (All-head (λ n. n < 2 ^ 32) texture (first ∷ count ∷ []) behind_client),
      number_read first (decimal count ∷ []) (All-head (λ n. n < 2 ^ 32) first (count ∷ []) behind_texture),
      single_read count (All-tail (λ n. n < 2 ^ 32) first (count ∷ []) behind_texture),
    ) refl
form_read (entries.Run client place) small = rw (number_read client (decimal place ∷ []) (All-head (λ n. n < 2 ^ 32) client (place ∷ []) small), single_read place (All-tail (λ n. n < 2 ^ 32) client (place ∷ []) small)) refl
form_read (entries.Leave client) small = rw (single_read client small) refl
form_read (entries.Info client) small = rw (single_read client small) refl
form_read (entries.Change place) small = rw (single_read place small) refl
form_read (entries.Gone client) small = rw (single_read client small) refl

-- numbers in their ranges are kept
range_read : (e : Entry) → EntryInRange e → entry_in (written e) ≡ Some e
unfolding entry_in place_in
range_read (entries.Light client) is = rw (kept 1 32 client is.0 is.1) refl
range_read (entries.Kernel client found) is = rw (kept 1 32 client is.0.0 is.0.1, kept 0 33 found is.1.0 is.1.1) refl
range_read (entries.Stale client) is = rw (kept 1 32 client is.0 is.1) refl
range_read (entries.Emit client groups) is = rw (kept 1 32 client is.0.0 is.0.1, kept 1 127 groups is.1.0 is.1.1) refl
range_read (entries.Place client texture first count) is = rw (kept 1 32 client is.0.0 is.0.1, kept 1 64 texture is.1.0 is.1.1, kept 0 63 first is.2.0 is.2.1, kept 1 64 count is.3.0 is.3.1) refl
range_read (entries.Run client place) is = rw (kept 1 32 client is.0.0 is.0.1, kept 1 100000 place is.1.0 is.1.1) refl
range_read (entries.Leave client) is = rw (kept 1 32 client is.0 is.1) refl
range_read (entries.Info client) is = rw (kept 1 32 client is.0 is.1) refl
range_read (entries.Change place) is = rw (kept 1 4096 place is.0 is.1) refl
range_read (entries.Gone client) is = rw (kept 1 32 client is.0 is.1) refl

-- a printed entry's line is that entry's
entry_read : (e : Entry) → All (λ n. n < 2 ^ 32) (entry_numbers e) → EntryInRange e → entry_of (joined (entry_words e)) ≡ Ok e
unfolding entry_of
entry_read e small is = rw (split_words (entry_word e) (map decimal (entry_numbers e)) (entry_printed e small), form_read e small, range_read e is) refl

entries_read : (n : ℕ) (j : List Entry) → All (λ e. All (λ n. n < 2 ^ 32) (entry_numbers e)) j → All EntryInRange j → entries_from n (rest_lines j) ≡ Ok j
entries_read n [] small is = refl
entries_read n (e ∷ j) small is =
    let fits = λ (e : Entry). All (λ n. n < 2 ^ 32) (entry_numbers e) in
    rw (some_rest j, entry_kept e, not_done e, entry_read e (All-head fits e j small) (All-head EntryInRange e j is), entries_read (n + 1) j (All-tail fits e j small) (All-tail EntryInRange e j is)) refl

-- the printed text is read again, whatever its first line's number is
pub reads_back_from : (n : ℕ) (j : List Entry) → All (λ e. All (λ n. n < 2 ^ 32) (entry_numbers e)) j → All EntryInRange j → titled_from n (parts_at 10 (journal_text j)) ≡ Ok j
reads_back_from n j small is =
    let split = ap (parts_at 10) (text_lines j) ∙ split_lines (journal_lines j) (behind_printed j small) ∙ ap (λ t. codes "journal 1" ∷ t) (rest_is j) in
    ap (titled_from n) split ∙ title_read j ∙ entries_read (n + 1) j small is
  where
    title_read : (j : List Entry) → titled_from n (codes "journal 1" ∷ rest_lines j) ≡ entries_from (n + 1) (rest_lines j)
    title_read j = rw (some_rest j) refl

pub reads_back : (j : List Entry) → All (λ e. All (λ n. n < 2 ^ 32) (entry_numbers e)) j → All EntryInRange j → journal_of_text (journal_text j) ≡ Ok j
unfolding journal_of_text
reads_back j small is = reads_back_from 1 j small is
