-- What a text leads to: line by line, groups or the first refusal.
use Rattle.std.specs.Prelude.{◌≡◌, ℕ, ◌+◌, List, [], ◌∷◌, ◌++◌, Bool, true, false, not, ◌==◌, ◌&&◌, nat_le, if◌then◌else◌, codes, Result, Ok, Err}
use Rattle.std.specs.List.{list_any}
use Rattle.std.specs.Str.{bytes_eq}
use Rattle.dri_base.specs.declared.scene.Scene.{Scene}
use Rattle.dri_base.specs.Ranges.{client_numbers}
use Rattle.dri_words.specs.Lines.{◌>>=◌, at_line, ends, is_passed_over, or_else}
use Rattle.dri_words.specs.Parts.{parts_at, is_nil}
use Rattle.dri_words.specs.declared.lines.Refusal.{Refusal}
use Rattle.dri_words.specs.declared.reason.Reason.{Reason}
use Rattle.dri_words.specs.declared.reason.Reason.TheVariants as reasons
use Rattle.dri_many.specs.declared.fault.GroupFault.{GroupFault}
use Rattle.dri_many.specs.declared.fault.GroupFault.TheVariants as faults
use Rattle.dri_many.specs.declared.fault.Stop.{Stop}
use Rattle.dri_many.specs.declared.fault.Stop.TheVariants as stops
use Rattle.dri_many.specs.declared.grouping.Grouping.{Grouping}
use Rattle.dri_many.specs.declared.reading.Place.{Place}
use Rattle.dri_many.specs.declared.reading.Place.TheVariants as places
use Rattle.dri_many.specs.declared.reading.Reading.{Reading}
use Rattle.dri_many.specs.Groupings.{most_currents}
use Rattle.dri_many.specs.Lines.{client_in, clients_in, current_form, group_form}

-- a group without lines
abbrev pub no_group : Grouping
no_group = record { members = []; currents = [] }

-- before the first line
abbrev pub opening : Reading
opening = record { place = places.Title; groups = []; group = no_group; currents = 0 }

-- the number is one of these
abbrev pub has_number : ℕ → List ℕ → Bool
has_number n numbers = list_any (λ m. m == n) numbers

-- the client stands in one of the groups
abbrev pub is_grouped : ℕ → List Grouping → Bool
is_grouped client groups = list_any (λ g. has_number client g.members) groups

-- each is one of the clients
abbrev pub are_there : List ℕ → List ℕ → Bool
are_there clients [] = true
are_there clients (m ∷ ms) = has_number m clients && are_there clients ms

-- none stands in a group, and none twice
abbrev pub are_new : List Grouping → List ℕ → Bool
are_new groups [] = true
are_new groups (m ∷ ms) = not (is_grouped m groups) && not (has_number m ms) && are_new groups ms

-- a group's block begins; unknown: a member isn't a client of the scene; twice: one stands in a group already
unfoldable pub with_group : Scene → Reading → List ℕ → Result Reading Reason
with_group s r members =
    if not (are_there (client_numbers s.clients) members) then Err reasons.Unknown
    else if not (are_new r.groups members) then Err reasons.Twice
    else Ok (record r { place = places.Block; group = record { members = members; currents = [] } })

-- a current more; unknown: it is no member; limit: it is the 100,001st of all groups
unfoldable pub with_current : Reading → ℕ → Result Reading Reason
with_current r client =
    if not (has_number client r.group.members) then Err reasons.Unknown
    else if nat_le most_currents r.currents then Err reasons.Limit
    else Ok (record r { group = record r.group { currents = r.group.currents ++ client ∷ [] }; currents = r.currents + 1 })

-- a group's block ends, and joins the others
abbrev pub with_end : Reading → Reading
with_end r = record r { place = places.Groups; groups = r.groups ++ r.group ∷ []; group = no_group }

-- a group line: its form, then its ranges, then what it begins
unfoldable pub after_group : Scene → Reading → List ℕ → Result Reading Reason
after_group s r line = do
  numbers ← or_else reasons.Shape (group_form (parts_at 32 line))
  members ← or_else reasons.Range (clients_in numbers)
  with_group s r members

-- a current line: its form, then its range, then what it adds
unfoldable pub after_current : Reading → List ℕ → Result Reading Reason
after_current r line = do
  number ← or_else reasons.Shape (current_form (parts_at 32 line))
  client ← or_else reasons.Range (client_in number)
  with_current r client

-- what may stand at a place: the title; a group or done; in a group's block a current or the end; behind done nothing
unfoldable pub after_line : Scene → Reading → List ℕ → Place → Result Reading Reason
after_line s r line places.Title = if bytes_eq line (codes "many 1") then Ok (record r { place = places.Groups }) else Err reasons.Shape
after_line s r line places.Groups = if bytes_eq line (codes "done") then Ok (record r { place = places.End }) else after_group s r line
after_line s r line places.Block = if bytes_eq line (codes "end") then Ok (with_end r) else after_current r line
after_line s r line places.End = Err reasons.Shape

-- what a line's bytes lead to
unfoldable pub after_bytes : Scene → Reading → List ℕ → Result Reading Reason
after_bytes s r line = if is_passed_over line then Ok r else after_line s r line r.place

-- the text is at its end
abbrev pub is_end : Place → Bool
is_end places.End = true
is_end place = false

-- from line n on: the lines up to done, and the end. The last part, behind the last newline, is no line
abbrev pub groups_from : Scene → ℕ → Reading → List (List ℕ) → Result (List Grouping) Refusal
groups_from s n r [] = Err record { line = n; reason = reasons.Ended }
groups_from s n r (line ∷ more) =
    if is_nil more then Err record { line = n; reason = reasons.Ended }
    else (at_line n (after_bytes s r line) >>= λ next.
    if is_end next.place then (ends (n + 1) more >>= λ end. Ok next.groups)
    else groups_from s (n + 1) next more)

-- the groups that a text spells whose first line has the number n, or the first line that is refused
unfoldable pub groups_of_text : Scene → ℕ → List ℕ → Result (List Grouping) Refusal
groups_of_text s n text = groups_from s n opening (parts_at 10 text)

-- a value is what the definition says, unless memory ran out
abbrev pub Yields : {A : Type 0} → Result A Stop → Result A Reason → Type 0
Yields (Ok x) read = read ≡ Ok x
Yields (Err (stops.Refused reason)) read = read ≡ Err reason
Yields (Err stops.OutOfMemory) read = Unit {0}

-- a step on a reading leads to what the definition says, unless memory ran out
abbrev pub Leads : {A : Type 0} → Result A Stop → Result Reading Reason → Reading → Type 0
Leads (Ok x) read r = read ≡ Ok r
Leads (Err (stops.Refused reason)) read r = read ≡ Err reason
Leads (Err stops.OutOfMemory) read r = Unit {0}

-- why line n leads no further
abbrev pub fault_at : ℕ → Stop → GroupFault
fault_at n (stops.Refused reason) = faults.Refused n reason
fault_at n stops.OutOfMemory = faults.OutOfMemory

-- a text gives what the definition says, unless memory ran out
abbrev pub Gives : Result (List Grouping) GroupFault → Result (List Grouping) Refusal → Type 0
Gives (Ok groups) read = read ≡ Ok groups
Gives (Err (faults.Refused line reason)) read = read ≡ Err (record { line = line; reason = reason })
Gives (Err faults.OutOfMemory) read = Unit {0}
