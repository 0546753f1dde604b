-- What is tested by what a replay keeps is what the table of entries tests.
use Rattle.std.proofs.Common.{◌≡◌, ◌≤◌, ◌+◌, ◌*◌, ◌∙◌, ℕ, List, [], ◌∷◌, Bool, true, false, Option, Some, None, Result, Ok, Err, length, refl, sym, ap, arith, inl}
use Rattle.std.specs.Prelude.{◌==◌, ◌&&◌, ◌||◌, if◌then◌else◌, IfErr, is_none, nat_le, not, pred, slice_get, Contains}
use Rattle.std.proofs.lemmas.Bool.{eqb-true, false_from_ne_true, true≢false}
use Rattle.std.proofs.lemmas.Bool.Decides.{nat_tests}
use Rattle.std.proofs.Math.Nat.{mul-le-mul_right}
use Rattle.dri_base.specs.Ranges.{InRange, TextureInRange, client_numbers, heap_bytes}
use Rattle.dri_base.specs.Scenes.{bytes_of, command_at, is_named, kills_in, regions_for, regions_needed, script_of, textures_of}
use Rattle.dri_base.specs.Texels.{texture_in}
use Rattle.dri_base.specs.declared.command.Command.{Command}
use Rattle.dri_base.specs.declared.command.Command.TheVariants as Command_is
use Rattle.dri_base.specs.declared.journal.Entry.{Entry}
use Rattle.dri_base.specs.declared.journal.Entry.TheVariants as Entry_is
use Rattle.dri_base.specs.declared.scene.ClientScript.{ClientScript}
use Rattle.dri_base.specs.declared.scene.Scene.{Scene}
use Rattle.dri_base.specs.declared.texture.Texture.{Texture}
use Rattle.dri_base.proofs.RangeLemmas.{number_of_script, textures_in_range}
use Rattle.dri_base.proofs.RegionSizes.{region_size_within}
use Rattle.dri_client.specs.Parts.{Agrees, PartState, next_command}
use Rattle.dri_client.specs.Textures.{bytes_in}
use Rattle.dri_core.specs.Decide.{is_die, is_legal_entry}
use Rattle.dri_core.specs.EntryTable.{is_start_for}
use Rattle.dri_core.specs.Phases.{Ask, Asking, In, Old, Out, Over, is_done, is_holding, same_phase}
use Rattle.dri_core.specs.Privates.{can_draw, can_run, is_ready, is_ready_for, is_triangle, room_by, room_in, textured_with}
use Rattle.dri_core.specs.Runs.{HoldRun, after, client_of}
use Rattle.dri_core.specs.Worlds.{World}
use Rattle.dri_core.proofs.Decide.{legal_is}
use Rattle.dri_core.proofs.TextureSizes.{heap_small}
use Rattle.dri_journal.specs.Acts.{own_room}
use Rattle.dri_journal.specs.Reasons.{Fails, IsThere, conditions, first_unmet, told_reason, ways_to_go}
use Rattle.dri_journal.specs.Remains.{AreMarksOf}
use Rattle.dri_journal.specs.Replays.{allows}
use Rattle.dri_journal.specs.declared.marks.Marks.{Marks}
use Rattle.dri_journal.specs.declared.refusal.Refusal.{Refusal}
use Rattle.dri_journal.specs.declared.refusal.Refusal.TheVariants as refusals
use Rattle.dri_journal.proofs.Whom.{has_number, is_clients, some_commands}
use Rattle.dri_model.specs.Groups.{bits, is_empty, same_number}
use Rattle.dri_texheap.specs.Placements.{placed_of}
use Rattle.dri_texheap.specs.RegionStates.{AreRegionsOf, RegionState, heap_of}

-- a client that isn't there makes no legal entry
pub no_client : (s : Scene) (j : List Entry) (e : Entry) → InRange s → HoldRun s j → is_clients e ≡ true → (Contains (client_numbers s.clients) (client_of e) → ⊥) → is_legal_entry s (after s j) e ≡ false
no_client s j e good run is none = false_from_ne_true _ (λ t. none (has_number s j good run (client_of e) (some_commands s j good run e is (legal_is s (after s j) e t))))

-- a texture has at most 4,194,304 bytes, as all regions together
pub texture_small : (s : Scene) (c t : ℕ) → InRange s → length (bytes_of (texture_in (textures_of s c) t)) ≤ 4194304
texture_small s c t good = by_texture (texture_in (textures_of s c) t) refl
  where
    by_texture : (o : Option Texture) → texture_in (textures_of s c) t ≡ o → length (bytes_of o) ≤ 4194304
    by_texture None is = omega arith
    by_texture (Some p) is = let range : TextureInRange (heap_bytes s) p = textures_in_range s c t p good is in let fits = range.fits in let small = heap_small s good in omega (arith, fits, small)

-- all conditions are met
abbrev are_met : List (Bool × Refusal) → Bool
are_met [] = true
are_met (c ∷ cs) = c.0 && are_met cs

none_unmet : (cs : List (Bool × Refusal)) → is_none (first_unmet cs) ≡ are_met cs
none_unmet [] = refl
none_unmet (c ∷ cs) = by_test c.0 (none_unmet cs)
  where
    by_test : (b : Bool) → is_none (first_unmet cs) ≡ are_met cs → is_none (if b then first_unmet cs else Some c.1) ≡ (b && are_met cs)
    by_test true rest = rest
    by_test false rest = refl

and_true : (b : Bool) → (b && true) ≡ b
and_true true = refl
and_true false = refl

two : (a b : Bool) → (a && (b && true)) ≡ (a && b)
two a b = λ k. a && and_true b k

three : (a b c : Bool) → (a && (b && (c && true))) ≡ (a && (b && c))
three a b c = λ k. a && two b c k

four : (a b c d : Bool) → (a && (b && (c && (d && true)))) ≡ (a && (b && (c && d)))
four a b c d = λ k. a && three b c d k

five : (a b c d e : Bool) → (a && (b && (c && (d && (e && true))))) ≡ (a && (b && (c && (d && e))))
five a b c d e = λ k. a && four b c d e k

can_run_by : (ready : Bool) (command : Option Command) → (can_run true command && (can_run ready command && true)) ≡ can_run ready command
can_run_by ready None = refl
can_run_by ready (Some Command_is.Die) = refl
can_run_by ready (Some (Command_is.Triangle t)) = and_true ready
can_run_by ready (Some (Command_is.Set setting)) = refl
can_run_by ready (Some (Command_is.Clear colour depth)) = refl
can_run_by ready (Some Command_is.Swap) = refl
can_run_by ready (Some Command_is.Yield) = refl

may_go : (dies named done free : Bool) → are_met (ways_to_go dies named done free) ≡ (dies || (named && (not done && free)))
may_go true named done free = refl
may_go false true true free = refl
may_go false true false free = and_true free
may_go false false done free = refl

-- an entry is legal exactly where each condition is met
pub all_met : (s : Scene) (w : World) (e : Entry) → is_none (first_unmet (conditions s w e)) ≡ is_legal_entry s w e
all_met s w (Entry_is.Light c) = none_unmet (conditions s w (Entry_is.Light c)) ∙ three (same_phase (w.client c).phase Out) (is_none w.holder) (w.left == c + 1)
all_met s w (Entry_is.Kernel c found) = none_unmet (conditions s w (Entry_is.Kernel c found)) ∙ four (same_phase (w.client c).phase Out) (is_none w.holder) ((found == 0) || (found == w.left)) (not (found == c + 1))
all_met s w (Entry_is.Stale c) = none_unmet (conditions s w (Entry_is.Stale c)) ∙ and_true (same_phase (w.client c).phase Old)
all_met s w (Entry_is.Leave c) = none_unmet (conditions s w (Entry_is.Leave c)) ∙ and_true (same_phase (w.client c).phase Over || same_phase (w.client c).phase Ask)
all_met s w (Entry_is.Info c) = none_unmet (conditions s w (Entry_is.Info c)) ∙ two (same_phase (w.client c).phase Asking) (is_none w.holder)
all_met s w (Entry_is.Change i) = none_unmet (conditions s w (Entry_is.Change i)) ∙ three (is_none w.holder) (i == w.made + 1) (nat_le i (length s.changes))
all_met s w (Entry_is.Emit c groups) = none_unmet (conditions s w (Entry_is.Emit c groups)) ∙
    five (same_phase (w.client c).phase In) (is_triangle (command_at s c (w.client c).place)) (is_ready (w.client c)) (groups == bits (w.client c).dirty) (not (is_empty (w.client c).dirty))
all_met s w (Entry_is.Place c t first count) = none_unmet (conditions s w (Entry_is.Place c t first count)) ∙
    five (same_phase (w.client c).phase In) (is_triangle (command_at s c (w.client c).place)) (same_number (textured_with (w.client c).state) (Some t)) (is_none ((w.client c).placed t)) ((count == regions_needed s c t) && is_start_for (room_in s c (w.client c) t) s.regions w.heap count first)
all_met s w (Entry_is.Run c i) = none_unmet (conditions s w (Entry_is.Run c i)) ∙ (λ k. same_phase (w.client c).phase In && ((i == (w.client c).place) && can_run_by (can_draw (w.client c)) (command_at s c i) k))
all_met s w (Entry_is.Gone c) = none_unmet (conditions s w (Entry_is.Gone c)) ∙ may_go (same_phase (w.client c).phase In && is_die (command_at s c (w.client c).place)) (is_named s c) (is_done (w.client c).phase) (is_holding (w.client c).phase || is_none w.holder)

-- what a judgement tells
pub allows_by : {A : Type 0} (r : Result A Refusal) → allows r ≡ is_none (told_reason r)
allows_by (Ok x) = refl
allows_by (Err reason) = refl

pub fails_by : {A : Type 0} (s : Scene) (w : World) (e : Entry) (r : Result A Refusal) → IsThere s e → told_reason r ≡ first_unmet (conditions s w e) → IfErr r (Fails s w e)
fails_by s w e (Ok x) there told = tt
fails_by s w e (Err reason) there told = inl (there, sym told)

pub is_there_by : (s : Scene) (e : Entry) → Contains (client_numbers s.clients) (client_of e) → IsThere s e
is_there_by s (Entry_is.Change i) has = tt
is_there_by s _ has = has

pub has_by : (s : Scene) (e : Entry) → is_clients e ≡ true → IsThere s e → Contains (client_numbers s.clients) (client_of e)
has_by s (Entry_is.Change i) is there = absurd (true≢false (sym is))
has_by s _ is there = there

-- the windows' changes
pub change : (s : Scene) (w : World) (m : Marks) (i n : ℕ) → AreMarksOf w m → n ≡ length s.changes →
    first_unmet ((is_none m.holder, refusals.Held) ∷ (i == m.made + 1, refusals.NoSuchChange) ∷ (nat_le i n, refusals.NoSuchChange) ∷ []) ≡ first_unmet (conditions s w (Entry_is.Change i))
change s w m i n marks all = λ k. first_unmet ((is_none (marks.holder k), refusals.Held) ∷ (i == marks.made k + 1, refusals.NoSuchChange) ∷ (nat_le i (all k), refusals.NoSuchChange) ∷ [])

-- what is looked at only at this place
at_place : (X Y : ℕ → Bool) (i n : ℕ) →
    first_unmet ((i == n, refusals.WrongPlace) ∷ (X n, refusals.NoCommand) ∷ (Y n, refusals.NotEmitted) ∷ []) ≡ first_unmet ((i == n, refusals.WrongPlace) ∷ (X i, refusals.NoCommand) ∷ (Y i, refusals.NotEmitted) ∷ [])
at_place X Y i n = by_test (i == n) refl
  where
    by_test : (b : Bool) → (i == n) ≡ b →
        first_unmet ((b, refusals.WrongPlace) ∷ (X n, refusals.NoCommand) ∷ (Y n, refusals.NotEmitted) ∷ []) ≡ first_unmet ((b, refusals.WrongPlace) ∷ (X i, refusals.NoCommand) ∷ (Y i, refusals.NotEmitted) ∷ [])
    by_test true e = let same : n ≡ i = sym (eqb-true i n e) in λ k. first_unmet ((X (same k), refusals.NoCommand) ∷ (Y (same k), refusals.NotEmitted) ∷ [])
    by_test false e = refl

-- the entries of a client
module _ (s : Scene) (w : World) (n : ℕ) (script : ClientScript) (part : PartState) (m : Marks) (own : script ≡ script_of s n) (agrees : Agrees part (w.client n)) (marks : AreMarksOf w m) where
  pub light : first_unmet ((same_phase part.phase Out, refusals.WrongPhase) ∷ (is_none m.holder, refusals.Held) ∷ (m.left == n + 1, refusals.NotTheLast) ∷ []) ≡ first_unmet (conditions s w (Entry_is.Light n))
  light = λ k. first_unmet ((same_phase (agrees k).phase Out, refusals.WrongPhase) ∷ (is_none (marks.holder k), refusals.Held) ∷ (marks.left k == n + 1, refusals.NotTheLast) ∷ [])

  pub kernel : (found : ℕ) →
      first_unmet ((same_phase part.phase Out, refusals.WrongPhase) ∷ (is_none m.holder, refusals.Held) ∷ ((found == 0) || (found == m.left), refusals.WrongContext) ∷ (not (found == n + 1), refusals.WrongContext) ∷ []) ≡ first_unmet (conditions s w (Entry_is.Kernel n found))
  kernel found = λ k. first_unmet ((same_phase (agrees k).phase Out, refusals.WrongPhase) ∷ (is_none (marks.holder k), refusals.Held) ∷ ((found == 0) || (found == marks.left k), refusals.WrongContext) ∷ (not (found == n + 1), refusals.WrongContext) ∷ [])

  pub stale : first_unmet ((same_phase part.phase Old, refusals.WrongPhase) ∷ []) ≡ first_unmet (conditions s w (Entry_is.Stale n))
  stale = λ k. first_unmet ((same_phase (agrees k).phase Old, refusals.WrongPhase) ∷ [])

  pub leave : first_unmet ((same_phase part.phase Over || same_phase part.phase Ask, refusals.WrongPhase) ∷ []) ≡ first_unmet (conditions s w (Entry_is.Leave n))
  leave = λ k. first_unmet ((same_phase (agrees k).phase Over || same_phase (agrees k).phase Ask, refusals.WrongPhase) ∷ [])

  pub info : first_unmet ((same_phase part.phase Asking, refusals.WrongPhase) ∷ (is_none m.holder, refusals.Held) ∷ []) ≡ first_unmet (conditions s w (Entry_is.Info n))
  info = λ k. first_unmet ((same_phase (agrees k).phase Asking, refusals.WrongPhase) ∷ (is_none (marks.holder k), refusals.Held) ∷ [])

  pub emit : (groups : ℕ) →
      first_unmet ((same_phase part.phase In, refusals.WrongPhase) ∷ (is_triangle (next_command script part), refusals.NoTriangle) ∷ (is_ready_for (placed_of part.placed) (textured_with part.state), refusals.NotPlaced) ∷ (groups == bits part.dirty, refusals.WrongGroups) ∷ (not (is_empty part.dirty), refusals.WrongGroups) ∷ [])
      ≡ first_unmet (conditions s w (Entry_is.Emit n groups))
  emit groups = λ k. first_unmet ((same_phase (agrees k).phase In, refusals.WrongPhase) ∷ (is_triangle (slice_get (own k).commands (pred (agrees k).place)), refusals.NoTriangle) ∷ (is_ready (agrees k), refusals.NotPlaced) ∷ (groups == bits (agrees k).dirty, refusals.WrongGroups) ∷ (not (is_empty (agrees k).dirty), refusals.WrongGroups) ∷ [])

  pub run : (i : ℕ) →
      first_unmet ((same_phase part.phase In, refusals.WrongPhase) ∷ (i == part.place, refusals.WrongPlace) ∷ (can_run true (next_command script part), refusals.NoCommand) ∷ (can_run (is_empty part.dirty && is_ready_for (placed_of part.placed) (textured_with part.state)) (next_command script part), refusals.NotEmitted) ∷ [])
      ≡ first_unmet (conditions s w (Entry_is.Run n i))
  run i =
      (λ k. if same_phase part.phase In then at_place (λ p. can_run true (slice_get script.commands (pred p))) (λ p. can_run (is_empty part.dirty && is_ready_for (placed_of part.placed) (textured_with part.state)) (slice_get script.commands (pred p))) i part.place k else Some refusals.WrongPhase) ∙
      (λ k. first_unmet ((same_phase (agrees k).phase In, refusals.WrongPhase) ∷ (i == (agrees k).place, refusals.WrongPlace) ∷ (can_run true (slice_get (own k).commands (pred i)), refusals.NoCommand) ∷ (can_run (can_draw (agrees k)) (slice_get (own k).commands (pred i)), refusals.NotEmitted) ∷ []))

  pub gone : first_unmet (ways_to_go (same_phase part.phase In && is_die (next_command script part)) (kills_in s.turns script.number) (is_done part.phase) (is_holding part.phase || is_none m.holder)) ≡ first_unmet (conditions s w (Entry_is.Gone n))
  gone = (λ k. first_unmet (ways_to_go (same_phase (agrees k).phase In && is_die (slice_get (own k).commands (pred (agrees k).place))) (kills_in s.turns (number k)) (is_done (agrees k).phase) (is_holding (agrees k).phase || is_none (marks.holder k))))
    where
      number : script.number ≡ n
      number = ap (λ (p : ClientScript). p.number) own ∙ number_of_script s.clients n

  pub place : (t first count : ℕ) (regions : RegionState) → part.placed.region_size ≡ s.region_size → AreRegionsOf s w.heap regions →
      first_unmet ((same_phase part.phase In, refusals.WrongPhase) ∷ (is_triangle (next_command script part), refusals.NoTriangle) ∷ (same_number (textured_with part.state) (Some t), refusals.WrongTexture) ∷ (is_none (placed_of part.placed t), refusals.WrongTexture) ∷
      ((count == regions_for part.placed.region_size (bytes_in script t)) && is_start_for (own_room script part t) regions.count (heap_of regions) count first, refusals.WrongRun) ∷ [])
      ≡ first_unmet (conditions s w (Entry_is.Place n t first count))
  place t first count regions sized are = λ k. first_unmet ((same_phase (agrees k).phase In, refusals.WrongPhase) ∷ (is_triangle (slice_get (own k).commands (pred (agrees k).place)), refusals.NoTriangle) ∷ (same_number (textured_with (agrees k).state) (Some t), refusals.WrongTexture) ∷
      (is_none ((agrees k).placed t), refusals.WrongTexture) ∷ ((count == regions_for (sized k) (bytes_in (own k) t)) && is_start_for (room_by (sized k) (agrees k).levels (bytes_in (own k) t)) (are.count k) (are.ages k) count first, refusals.WrongRun) ∷ [])
