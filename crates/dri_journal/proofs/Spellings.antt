-- A journal's text determines the journal: words and numbers are cut at spaces and newlines, and lines at newlines.
use Rattle.std.proofs.Common.{◌≡◌, ℕ, ◌+◌, ◌%◌, ◌^◌, ◌<◌, ◌≤◌, Bool, true, List, [], ◌∷◌, ◌++◌, Option, Some, None, refl, sym, ap, ◌∙◌, append_assoc, arith, lit<, All, ◌==◌}
use Rattle.std.specs.Prelude.{codes, ◌&&◌, nat_le, if◌then◌else◌}
use Rattle.std.specs.List.{flat_map}
use Rattle.std.specs.Fmt.{decimal}
use Rattle.std.proofs.lemmas.Bool.Decides.{nat_tests}
use Rattle.std.proofs.lemmas.List.Elements.{All-head, All-tail}
use Rattle.std.proofs.lemmas.Fmt.{decimal_by_steps, decimal_injective}
use Rattle.dri_base.specs.declared.journal.Entry.{Entry}
use Rattle.dri_base.specs.declared.journal.Entry.TheVariants as entries
use Rattle.dri_journal.specs.Journals.{FitsWords, entry_line, entry_numbers, entry_word, journal_text, spaced}

-- no byte is a space or a newline, nor any other below the digits
abbrev Unmarked : List ℕ → Type 0
Unmarked [] = Unit {0}
Unmarked (c ∷ cs) = (48 ≤ c) × Unmarked cs

-- the first byte is below the digits
abbrev Marked : List ℕ → Type 0
Marked [] = ⊥
Marked (c ∷ cs) = c < 48

-- what stands before the first such byte is determined, and what stands from it on
cut : (xs ys t u : List ℕ) → Unmarked xs → Unmarked ys → Marked t → Marked u → xs ++ t ≡ ys ++ u → (xs ≡ ys) × (t ≡ u)
cut [] [] t u a b p q same = (refl, same)
cut [] (y ∷ ys) [] u a b p q same = absurd p
cut [] (y ∷ ys) (c ∷ t) u a b p q same = let head : c ≡ y = cc in let high = b.0 in absurd (omega arith)
cut (x ∷ xs) [] t [] a b p q same = absurd q
cut (x ∷ xs) [] t (d ∷ u) a b p q same = let head : x ≡ d = cc in let high = a.0 in absurd (omega arith)
cut (x ∷ xs) (y ∷ ys) t u a b p q same =
    let head : x ≡ y = cc in
    let rest : xs ++ t ≡ ys ++ u = cc in
    let later = cut xs ys t u a.1 b.1 p q rest in
    let front = later.0 in (cc, later.1)

unmarked_append : (xs ys : List ℕ) → Unmarked xs → Unmarked ys → Unmarked (xs ++ ys)
unmarked_append [] ys a b = b
unmarked_append (x ∷ xs) ys a b = (a.0, unmarked_append xs ys a.1 b)

-- a number's digits
unmarked_decimal : (n : ℕ) → n < 2 ^ 32 → Unmarked (decimal n)
unmarked_decimal n small = decimal_by_steps (λ n ds. Unmarked ds) one more n (omega arith) where
  one : (n : ℕ) → n < 10 → Unmarked ((48 + n) ∷ [])
  one n below = (omega arith, tt)

  more : (n : ℕ) (ds : List ℕ) → 10 ≤ n → Unmarked ds → Unmarked (ds ++ ((48 + n % 10) ∷ []))
  more n ds large before = unmarked_append ds ((48 + n % 10) ∷ []) before (omega arith, tt)

is_unmarked : List ℕ → Bool
is_unmarked [] = true
is_unmarked (c ∷ cs) = nat_le 48 c && is_unmarked cs

unmarked_told : (cs : List ℕ) → is_unmarked cs ≡ true → Unmarked cs
unfolding is_unmarked
unmarked_told [] told = tt
unmarked_told (c ∷ cs) told = (grind (arith, nat_tests), unmarked_told cs (grind (arith, nat_tests)))

-- an entry's word
unmarked_word : (e : Entry) → Unmarked (entry_word e)
unfolding is_unmarked
unmarked_word (entries.Light client) = unmarked_told (codes "light") refl
unmarked_word (entries.Kernel client found) = unmarked_told (codes "kernel") refl
unmarked_word (entries.Stale client) = unmarked_told (codes "stale") refl
unmarked_word (entries.Emit client groups) = unmarked_told (codes "emit") refl
unmarked_word (entries.Place client texture first count) = unmarked_told (codes "place") refl
unmarked_word (entries.Run client place) = unmarked_told (codes "run") refl
unmarked_word (entries.Leave client) = unmarked_told (codes "leave") refl
unmarked_word (entries.Info client) = unmarked_told (codes "info") refl
unmarked_word (entries.Change place) = unmarked_told (codes "change") refl
unmarked_word (entries.Gone client) = unmarked_told (codes "gone") refl

-- numbers, and the end of their line
abbrev ending : List ℕ → List ℕ → List ℕ
ending numbers rest = flat_map spaced numbers ++ (10 ∷ rest)

marked_ending : (numbers rest : List ℕ) → Marked (ending numbers rest)
marked_ending [] rest = lit< tt
marked_ending (n ∷ numbers) rest = lit< tt

head_same : (c d : ℕ) (r s : List ℕ) → c ∷ r ≡ d ∷ s → c ≡ d
head_same c d r s same = cc

numbers_cut : (ns ms r s : List ℕ) → All (λ n. n < 2 ^ 32) ns → All (λ n. n < 2 ^ 32) ms → ending ns r ≡ ending ms s → (ns ≡ ms) × (r ≡ s)
numbers_cut [] [] r s a b same = (refl, cc)
numbers_cut [] (m ∷ ms) r s a b same = let no = head_same 10 32 r (decimal m ++ flat_map spaced ms ++ (10 ∷ s)) same in absurd (omega (arith, no))
numbers_cut (n ∷ ns) [] r s a b same = let no = head_same 32 10 (decimal n ++ flat_map spaced ns ++ (10 ∷ r)) s same in absurd (omega (arith, no))
numbers_cut (n ∷ ns) (m ∷ ms) r s a b same =
    let n_small : n < 2 ^ 32 = All-head (λ n. n < 2 ^ 32) n ns a in
    let m_small : m < 2 ^ 32 = All-head (λ n. n < 2 ^ 32) m ms b in
    let line : (decimal n ++ flat_map spaced ns) ++ (10 ∷ r) ≡ (decimal m ++ flat_map spaced ms) ++ (10 ∷ s) = cc in
    let apart : decimal n ++ ending ns r ≡ decimal m ++ ending ms s = sym (append_assoc (decimal n) (flat_map spaced ns) (10 ∷ r)) ∙ line ∙ append_assoc (decimal m) (flat_map spaced ms) (10 ∷ s) in
    let halves = cut (decimal n) (decimal m) (ending ns r) (ending ms s) (unmarked_decimal n n_small) (unmarked_decimal m m_small) (marked_ending ns r) (marked_ending ms s) apart in
    let head : n ≡ m = decimal_injective n m (omega arith) (omega arith) halves.0 in
    let later = numbers_cut ns ms r s (All-tail (λ n. n < 2 ^ 32) n ns a) (All-tail (λ n. n < 2 ^ 32) m ms b) halves.1 in
    let tail = later.0 in (cc, later.1)

-- the entry of a word and its numbers
one : (ℕ → Entry) → List ℕ → Option Entry
one f (a ∷ []) = Some (f a)
one f _ = None

two : (ℕ → ℕ → Entry) → List ℕ → Option Entry
two f (a ∷ b ∷ []) = Some (f a b)
two f _ = None

four : (ℕ → ℕ → ℕ → ℕ → Entry) → List ℕ → Option Entry
four f (a ∷ b ∷ c ∷ d ∷ []) = Some (f a b c d)
four f _ = None

-- by its first two letters
entry_of : List ℕ → List ℕ → Option Entry
entry_of [] numbers = None
entry_of (a ∷ []) numbers = None
entry_of (a ∷ b ∷ letters) numbers =
    if a == 108 then (if b == 105 then one (λ c. entries.Light c) numbers else one (λ c. entries.Leave c) numbers) else (
    if a == 107 then two (λ c d. entries.Kernel c d) numbers else (
    if a == 115 then one (λ c. entries.Stale c) numbers else (
    if a == 101 then two (λ c d. entries.Emit c d) numbers else (
    if a == 112 then four (λ c d e f. entries.Place c d e f) numbers else (
    if a == 114 then two (λ c d. entries.Run c d) numbers else (
    if a == 105 then one (λ c. entries.Info c) numbers else (
    if a == 99 then one (λ c. entries.Change c) numbers else (
    if a == 103 then one (λ c. entries.Gone c) numbers else None))))))))

entry_back : (e : Entry) → entry_of (entry_word e) (entry_numbers e) ≡ Some e
unfolding entry_of one two four
entry_back (entries.Light client) = refl
entry_back (entries.Kernel client found) = refl
entry_back (entries.Stale client) = refl
entry_back (entries.Emit client groups) = refl
entry_back (entries.Place client texture first count) = refl
entry_back (entries.Run client place) = refl
entry_back (entries.Leave client) = refl
entry_back (entries.Info client) = refl
entry_back (entries.Change place) = refl
entry_back (entries.Gone client) = refl

entry_same : (e f : Entry) → entry_word e ≡ entry_word f → entry_numbers e ≡ entry_numbers f → e ≡ f
entry_same e f word numbers =
    let both : Some e ≡ Some f = sym (entry_back e) ∙ ap (λ w. entry_of w (entry_numbers e)) word ∙ ap (λ ns. entry_of (entry_word f) ns) numbers ∙ entry_back f in cc

-- a line's word, and what stands behind it
line_apart : (e : Entry) (rest : List ℕ) → entry_line e ++ rest ≡ entry_word e ++ ending (entry_numbers e) rest
line_apart e rest =
    append_assoc (entry_word e) (flat_map spaced (entry_numbers e) ++ (10 ∷ [])) rest
    ∙ ap (λ t. entry_word e ++ t) (append_assoc (flat_map spaced (entry_numbers e)) (10 ∷ []) rest)

line_cut : (e f : Entry) (r s : List ℕ) → FitsWords e → FitsWords f → entry_line e ++ r ≡ entry_line f ++ s → (e ≡ f) × (r ≡ s)
line_cut e f r s a b same =
    let apart = sym (line_apart e r) ∙ same ∙ line_apart f s in
    let halves = cut (entry_word e) (entry_word f) (ending (entry_numbers e) r) (ending (entry_numbers f) s) (unmarked_word e) (unmarked_word f) (marked_ending (entry_numbers e) r) (marked_ending (entry_numbers f) s) apart in
    let later = numbers_cut (entry_numbers e) (entry_numbers f) r s a b halves.1 in
    (entry_same e f halves.0 later.0, later.1)

-- no entry's word is done
not_done : (e : Entry) → codes "done" ≡ entry_word e → ⊥
unfolding entry_of
not_done e same =
    let none : None ≡ Some e = ap (λ w. entry_of w (entry_numbers e)) same ∙ entry_back e in cc

unmarked_done : Unmarked (codes "done")
unfolding is_unmarked
unmarked_done = unmarked_told (codes "done") refl

not_ended : (e : Entry) (rest : List ℕ) → codes "done\n" ≡ entry_line e ++ rest → ⊥
not_ended e rest same =
    let halves = cut (codes "done") (entry_word e) (10 ∷ []) (ending (entry_numbers e) rest) (unmarked_done) (unmarked_word e) (lit< tt) (marked_ending (entry_numbers e) rest) (same ∙ line_apart e rest) in
    not_done e halves.0

-- lines, and the end of a journal
abbrev lines_of : List Entry → List ℕ
lines_of journal = flat_map entry_line journal ++ codes "done\n"

lines_same : (j k : List Entry) → All FitsWords j → All FitsWords k → lines_of j ≡ lines_of k → j ≡ k
lines_same [] [] a b same = refl
lines_same [] (f ∷ k) a b same = absurd (not_ended f (lines_of k) (same ∙ append_assoc (entry_line f) (flat_map entry_line k) (codes "done\n")))
lines_same (e ∷ j) [] a b same = absurd (not_ended e (lines_of j) (sym same ∙ append_assoc (entry_line e) (flat_map entry_line j) (codes "done\n")))
lines_same (e ∷ j) (f ∷ k) a b same =
    let apart : entry_line e ++ lines_of j ≡ entry_line f ++ lines_of k =
    sym (append_assoc (entry_line e) (flat_map entry_line j) (codes "done\n")) ∙ same ∙ append_assoc (entry_line f) (flat_map entry_line k) (codes "done\n") in
    let halves = line_cut e f (lines_of j) (lines_of k) (All-head FitsWords e j a) (All-head FitsWords f k b) apart in
    let tail = lines_same j k (All-tail FitsWords e j a) (All-tail FitsWords f k b) halves.1 in
    let head = halves.0 in cc

front_same : (xs : List ℕ) (r s : List ℕ) → xs ++ r ≡ xs ++ s → r ≡ s
front_same [] r s same = same
front_same (x ∷ xs) r s same = front_same xs r s cc

-- two journals with one text are one
pub text_determines : (j k : List Entry) → All FitsWords j → All FitsWords k → journal_text j ≡ journal_text k → j ≡ k
text_determines j k a b same = lines_same j k a b (front_same (codes "journal 1\n") (lines_of j) (lines_of k) same)
