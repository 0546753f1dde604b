-- The entries of a hold-run have their numbers in the ranges of their lines.
use Rattle.std.proofs.Common.{◌≡◌, ◌≢◌, ◌≤◌, ◌<◌, ◌+◌, ◌*◌, ◌^◌, ℕ, zero, suc, List, [], ◌∷◌, ◌++◌, Bool, true, false, Option, Some, None, Ok, All, take, pred, refl, sym, subst, arith, inl, inr, Contains}
use Rattle.std.specs.Prelude.{◌⊎◌, ◌&&◌, ◌==◌, IfSome, IsSome, if◌then◌else◌, nat_lt, not, slice_get}
use Rattle.std.proofs.lemmas.Bool.{eqb-true, true≢false}
use Rattle.std.proofs.lemmas.Bool.Decides.{eqb_tells, nat_tests}
use Rattle.std.proofs.lemmas.List.Elements.{All-cons, All-contains, All-head, All-nil, All-tail, All-weaker}
use Rattle.dri_base.specs.Ranges.{ClientInRange, CommandInRange, InRange, IsWithin, client_numbers, heap_bytes, texture_numbers}
use Rattle.dri_base.specs.Scenes.{commands_of, regions_needed, script_in, script_of, textures_of}
use Rattle.dri_base.specs.States.{default_state, state_after, states}
use Rattle.dri_base.specs.Texels.{texture_in}
use Rattle.dri_base.specs.declared.command.Command.{Command}
use Rattle.dri_base.specs.declared.command.Command.TheVariants as Command_is
use Rattle.dri_base.specs.declared.journal.Entry.{Entry}
use Rattle.dri_base.specs.declared.journal.Entry.TheVariants as Entry_is
use Rattle.dri_base.specs.declared.scene.ClientScript.{ClientScript}
use Rattle.dri_base.specs.declared.scene.Scene.{Scene}
use Rattle.dri_base.specs.declared.state.State.{State}
use Rattle.dri_base.specs.declared.texture.Texture.{Texture}
use Rattle.dri_base.proofs.RangeLemmas.{well_formed}
use Rattle.dri_base.proofs.RegionSizes.{region_size_above}
use Rattle.dri_client.specs.Kept.{IsKept, IsScript}
use Rattle.dri_client.specs.Parts.{PartState}
use Rattle.dri_client.proofs.Owned.{script_in_range, setting_bound, used_number}
use Rattle.dri_client.proofs.Placing.{room_parts}
use Rattle.dri_core.specs.EntryTable.{LegalEntry, after_entry, is_start_for}
use Rattle.dri_core.specs.Phases.{Over}
use Rattle.dri_core.specs.Privates.{blocks_needed, is_small, room_in, textured_with}
use Rattle.dri_core.specs.Runs.{HoldRun, LegalEntries, after, client_of}
use Rattle.dri_core.proofs.Bounds.{numbers_within}
use Rattle.dri_core.proofs.Invariant.{Invariant}
use Rattle.dri_core.proofs.Kept.{after_kept}
use Rattle.dri_core.proofs.Laws.{HoldRun-push, after-push}
use Rattle.dri_core.proofs.Lively.{Lively, lively_after}
use Rattle.dri_core.proofs.Packing.{no_some, some_spot}
use Rattle.dri_core.proofs.TextureSizes.{place_inside}
use Rattle.dri_journal.specs.Journals.{EntryInRange, FitsWords, journal_text}
use Rattle.dri_journal.specs.Readings.{journal_of_text, titled_from}
use Rattle.dri_journal.proofs.Legal.{at_least_one, needed_bytes}
use Rattle.dri_journal.proofs.ReadBack.{reads_back_from}
use Rattle.dri_journal.proofs.Whom.{has_number, is_clients, some_commands}
use Rattle.dri_texheap.specs.Placements.{placed_of}
use Rattle.dri_texheap.specs.RegionStates.{IsInside}
use Rattle.dri_words.specs.Parts.{parts_at}
use Rattle.dri_model.specs.Groups.{Groups, bits, flag_word, is_empty, no_groups}
use Rattle.dri_model.specs.Heaps.{Spot}
use Rattle.dri_model.specs.Shares.{lowest_shared, room_for, spot_above}

-- a client's number is 1 to 32
client_within : (s : Scene) (c : ℕ) → InRange s → Contains (client_numbers s.clients) c → IsWithin 1 32 c
client_within s c good there =
    let all = numbers_within (ClientInRange s.windows (heap_bytes s)) s.clients good.scripted.each (λ p q. q.numbered) in
    let above : 0 < c = All-contains (λ n. 0 < n) (client_numbers s.clients) c all.1 there in
    (omega (arith, above), All-contains (λ n. n ≤ 32) (client_numbers s.clients) c all.0 there)

-- a script with a command has a place
script_place : (ps : List ClientScript) (c : ℕ) → (script_in ps c).commands ≢ [] → (i : ℕ) × (slice_get ps i ≡ Some (script_in ps c))
script_place [] c some = absurd (some refl)
script_place (p ∷ ps) c some = by_number (eqb_tells p.number c) some (script_place ps c)
  where
    by_number : ((p.number == c) ≡ true) × (p.number ≡ c) ⊎ (((p.number == c) ≡ false) × (p.number ≢ c)) → (script_in (p ∷ ps) c).commands ≢ [] →
        ((script_in ps c).commands ≢ [] → (i : ℕ) × (slice_get ps i ≡ Some (script_in ps c))) → (i : ℕ) × (slice_get (p ∷ ps) i ≡ Some (script_in (p ∷ ps) c))
    by_number (inl same) some rest = (0, rw same.0 refl)
    by_number (inr other) some rest = let there = rest (rw other.0 at some) in (suc there.0, rw other.0 there.1)

-- the bound texture is one of these
abbrev BindsOne : List Texture → State → Type 0
BindsOne ps state = (t : ℕ) → state.bound ≡ Some t → IsSome (texture_in ps t)

command_binds : (ps : List Texture) (command : Command) (old : State) → CommandInRange (texture_numbers ps) command → BindsOne ps old → BindsOne ps (state_after command old)
command_binds ps (Command_is.Set setting) old range own = setting_bound ps setting old range own
command_binds ps (Command_is.Clear colour depth) old range own = own
command_binds ps (Command_is.Triangle x) old range own = own
command_binds ps Command_is.Swap old range own = own
command_binds ps Command_is.Yield old range own = own
command_binds ps Command_is.Die old range own = own

states_bind : (ps : List Texture) (cs : List Command) (n : ℕ) (old : State) → All (CommandInRange (texture_numbers ps)) cs → BindsOne ps old → BindsOne ps (states old (take n cs))
states_bind ps [] zero old all own = own
states_bind ps [] (suc n) old all own = own
states_bind ps (c ∷ cs) zero old all own = own
states_bind ps (c ∷ cs) (suc n) old all own =
    states_bind ps cs n (state_after c old) (All-tail (CommandInRange (texture_numbers ps)) c cs all) (command_binds ps c old (All-head (CommandInRange (texture_numbers ps)) c cs all) own)

-- a set of groups that isn't empty has a number from 1 to 127
flag_small : (b : Bool) → flag_word b ≤ 1
flag_small true = omega arith
flag_small false = omega arith

flag_or : (b rest : Bool) (n m : ℕ) → (b ≡ true → 0 < n) → (rest ≡ false → 0 < m) → (not b && rest) ≡ false → 0 < n + m
flag_or true rest n m here there e = let some = here refl in omega (arith, some)
flag_or false rest n m here there e = let some = there e in omega (arith, some)

some_groups : (g : Groups) → is_empty g ≡ false → IsWithin 1 127 (bits g)
some_groups g e = (omega (arith, some), omega (arith, flag_small g.shade, flag_small g.depth, flag_small g.blend, flag_small g.mode, flag_small g.wrap, flag_small g.bound, flag_small g.scissor))
  where
    one : (b : Bool) (k : ℕ) → 0 < k → b ≡ true → 0 < k * flag_word b
    one b k some is = rw is (omega (arith, some))

    none : (b : Bool) (k : ℕ) → 0 < k → not b ≡ false → 0 < k * flag_word b
    none true k some is = omega (arith, some)
    none false k some is = absurd (true≢false is)

    some : 0 < bits g
    some = flag_or g.shade _ (flag_word g.shade) _ (λ is. rw is (omega arith))
        (flag_or g.depth _ (2 * flag_word g.depth) _ (one g.depth 2 (omega arith))
        (flag_or g.blend _ (4 * flag_word g.blend) _ (one g.blend 4 (omega arith))
        (flag_or g.mode _ (8 * flag_word g.mode) _ (one g.mode 8 (omega arith))
        (flag_or g.wrap _ (16 * flag_word g.wrap) _ (one g.wrap 16 (omega arith))
        (flag_or g.bound _ (32 * flag_word g.bound) _ (one g.bound 32 (omega arith)) (none g.scissor 64 (omega arith))))))) e

-- a room is in one of 64 regions
room_low : (size : ℕ) (levels : ℕ → Option ℕ) (blocks : ℕ) (spot : Spot) → room_for size levels blocks ≡ Some spot → spot.run.first < 64
room_low size levels blocks spot e = by_number (nat_lt k 64) refl e
  where
    k : ℕ
    k = lowest_shared size levels blocks

    by_level : k < 64 → (o : Option ℕ) → spot_above k o ≡ Some spot → spot.run.first < 64
    by_level low None e = absurd (no_some refl e)
    by_level low (Some v) e = subst (λ (z : Spot). z.run.first < 64) (some_spot _ spot e) low

    by_number : (b : Bool) → nat_lt k 64 ≡ b → (if b then spot_above k (levels k) else None) ≡ Some spot → spot.run.first < 64
    by_number true low e = by_level (grind (arith, nat_tests)) (levels k) e
    by_number false high e = absurd (no_some refl e)

-- a legal entry after a journal
module _ (s : Scene) (j : List Entry) (good : InRange s) (run : HoldRun s j) where
  kept : Invariant s (after s j)
  kept = after_kept s j (well_formed s good) run

  lively : Lively s (after s j)
  lively = lively_after s j (well_formed s good) run

  who : (e : Entry) → is_clients e ≡ true → LegalEntry s (after s j) e → IsWithin 1 32 (client_of e)
  who e is legal = client_within s (client_of e) good (has_number s j good run (client_of e) (some_commands s j good run e is legal))

  script : (e : Entry) → is_clients e ≡ true → LegalEntry s (after s j) e → IsScript (script_of s (client_of e))
  script e is legal = let there = script_place s.clients (client_of e) (some_commands s j good run e is legal) in script_in_range s (client_of e) there.0 good there.1

  -- the texture that a client's triangles need is numbered from 1 to 64, and takes a region
  module _ (c : ℕ) (ranged : IsScript (script_of s c)) (t : ℕ) (used : textured_with ((after s j).client c).state ≡ Some t) where
    abbrev part : PartState
    part = record { place = 1; phase = Over; stamp = 0; state = ((after s j).client c).state; dirty = no_groups; placed = record { spots = []; levels = []; region_size = s.region_size }; local = 0 }

    own : IsKept (script_of s c) s.regions part
    own = record {
      started = omega arith;
      within = omega arith;
      more = tt;
      bound = subst (BindsOne (textures_of s c)) (sym (kept.state c)) (states_bind (textures_of s c) (commands_of s c) (pred ((after s j).client c).place) default_state ranged.commanded.each (λ t e. absurd (cc)));
      inside = record { placed = nowhere (λ spot. IsInside s.regions spot.run); shared = λ k level e. absurd (cc) };
      blocks = nowhere (λ spot. spot.block ≤ 1024);
    }
      where
        nowhere : (P : Spot → Type 0) (t : ℕ) → IfSome (placed_of part.placed t) P
        nowhere P zero = tt
        nowhere P (suc t) = tt

    texture_within : IsWithin 1 64 t
    texture_within = used_number (script_of s c) s.regions t part ranged own used

    takes_some : 1 ≤ regions_needed s c t
    takes_some = at_least_one s.region_size _ (region_size_above s.region_size good.card.sized) (needed_bytes s c t part good own used)

  legal_in_range : (e : Entry) → (after s j).left ≤ 33 → LegalEntry s (after s j) e → EntryInRange e
  legal_in_range (Entry_is.Light c) left legal = who (Entry_is.Light c) refl legal
  legal_in_range (Entry_is.Kernel c found) left legal = (who (Entry_is.Kernel c found) refl legal, by_context legal.2)
    where
      by_context : (found ≡ 0) ⊎ (found ≡ (after s j).left) → IsWithin 0 33 found
      by_context (inl none) = (omega arith, omega (arith, none))
      by_context (inr last) = (omega arith, omega (arith, last, left))
  legal_in_range (Entry_is.Stale c) left legal = who (Entry_is.Stale c) refl legal
  legal_in_range (Entry_is.Emit c groups) left legal = (who (Entry_is.Emit c groups) refl legal, subst (IsWithin 1 127) (sym legal.2) (some_groups ((after s j).client c).dirty legal.3))
  legal_in_range (Entry_is.Place c t first count) left legal =
      let ranged = script (Entry_is.Place c t first count) refl legal in
      let some = takes_some c ranged t legal.1 in
      let few = good.card.regions.1 in let takes = (well_formed s good).heap c t in
      (who (Entry_is.Place c t first count) refl legal, texture_within c ranged t legal.1, (omega arith, begins (room_in s c ((after s j).client c) t) refl legal.4), (omega (arith, some, legal.3), omega (arith, takes, legal.3, few)))
    where
      -- it begins at one of 64 regions: a room does, and the heap has no more
      begins : (o : Option Spot) → room_in s c ((after s j).client c) t ≡ o → is_start_for o s.regions (after s j).heap count first ≡ true → first ≤ 63
      begins None e start =
          let ranged = script (Entry_is.Place c t first count) refl legal in
          omega (arith, place_inside s.regions (after s j).heap count first start, takes_some c ranged t legal.1, legal.3, good.card.regions.1)
      begins (Some spot) e start =
          let low = room_low s.region_size ((after s j).client c).levels (blocks_needed s c t) spot (room_parts (is_small s c t) _ spot e).1 in
          omega (arith, eqb-true first spot.run.first start, low)
  legal_in_range (Entry_is.Run c i) left legal =
      let below = lively.more c (rw legal.0 refl) in
      let ranged = script (Entry_is.Run c i) refl legal in
      (who (Entry_is.Run c i) refl legal, (omega (arith, legal.1, kept.started c), omega (arith, legal.1, below, ranged.few)))
  legal_in_range (Entry_is.Leave c) left legal = who (Entry_is.Leave c) refl legal
  legal_in_range (Entry_is.Info c) left legal = who (Entry_is.Info c) refl legal
  legal_in_range (Entry_is.Change i) left legal = (omega (arith, legal.1), omega (arith, legal.2, good.changed.few))
  legal_in_range (Entry_is.Gone c) left legal = who (Entry_is.Gone c) refl legal

  -- the context that was left is at most that of client 32
  left_within : (e : Entry) → (after s j).left ≤ 33 → LegalEntry s (after s j) e → (after_entry s (after s j) e).left ≤ 33
  left_within (Entry_is.Leave c) left legal = let own = who (Entry_is.Leave c) refl legal in omega (arith, own.1)
  left_within (Entry_is.Info c) left legal = omega arith
  left_within (Entry_is.Change i) left legal = omega arith
  left_within (Entry_is.Gone c) left legal = omega arith
  left_within (Entry_is.Light c) left legal = left
  left_within (Entry_is.Kernel c found) left legal = left
  left_within (Entry_is.Stale c) left legal = left
  left_within (Entry_is.Emit c groups) left legal = left
  left_within (Entry_is.Place c t first count) left legal = left
  left_within (Entry_is.Run c i) left legal = left

along : (s : Scene) (past rest : List Entry) → InRange s → HoldRun s past → (after s past).left ≤ 33 → LegalEntries s (after s past) rest → All EntryInRange rest
along s past [] good run left legal = All-nil EntryInRange
along s past (e ∷ rest) good run left legal =
    All-cons EntryInRange e rest (legal_in_range s past good run e left legal.0)
    (along s (past ++ e ∷ []) rest good (HoldRun-push s past e run legal.0)
    (subst (λ w. w.left ≤ 33) (sym (after-push s past e)) (left_within s past good run e left legal.0))
    (subst (λ w. LegalEntries s w rest) (sym (after-push s past e)) legal.1))

-- the entries of a hold-run are in their lines' ranges
pub run_in_range : (s : Scene) (j : List Entry) → InRange s → HoldRun s j → All EntryInRange j
run_in_range s j good run = along s [] j good tt (omega arith) run

-- numbers in their lines' ranges have 32 bits
small : (n high : ℕ) → high < 2 ^ 32 → n ≤ high → n < 2 ^ 32
small n high bound le = omega (arith, bound, le)

abbrev IsWord : ℕ → Type 0
IsWord n = n < 2 ^ 32

one_word : (n high : ℕ) → high < 2 ^ 32 → n ≤ high → All IsWord (n ∷ [])
one_word n high bound le = All-cons IsWord n [] (small n high bound le) (All-nil IsWord)

two_words : (n m high top : ℕ) → high < 2 ^ 32 → top < 2 ^ 32 → n ≤ high → m ≤ top → All IsWord (n ∷ m ∷ [])
two_words n m high top bound over le lt = All-cons IsWord n (m ∷ []) (small n high bound le) (one_word m top over lt)

entry_fits : (e : Entry) → EntryInRange e → FitsWords e
entry_fits (Entry_is.Light c) is = one_word c 32 (omega arith) is.1
entry_fits (Entry_is.Kernel c found) is = two_words c found 32 33 (omega arith) (omega arith) is.0.1 is.1.1
entry_fits (Entry_is.Stale c) is = one_word c 32 (omega arith) is.1
entry_fits (Entry_is.Emit c groups) is = two_words c groups 32 127 (omega arith) (omega arith) is.0.1 is.1.1
entry_fits (Entry_is.Place c t first count) is =
    All-cons IsWord c (t ∷ first ∷ count ∷ []) (small c 32 (omega arith) is.0.1) (All-cons IsWord t (first ∷ count ∷ []) (small t 64 (omega arith) is.1.1) (two_words first count 63 64 (omega arith) (omega arith) is.2.1 is.3.1))
entry_fits (Entry_is.Run c i) is = two_words c i 32 100000 (omega arith) (omega arith) is.0.1 is.1.1
entry_fits (Entry_is.Leave c) is = one_word c 32 (omega arith) is.1
entry_fits (Entry_is.Info c) is = one_word c 32 (omega arith) is.1
entry_fits (Entry_is.Change i) is = one_word i 4096 (omega arith) is.1
entry_fits (Entry_is.Gone c) is = one_word c 32 (omega arith) is.1

-- the text of a hold-run is read again, whatever its first line's number is
pub run_reads_from : (n : ℕ) (s : Scene) (j : List Entry) → InRange s → HoldRun s j → titled_from n (parts_at 10 (journal_text j)) ≡ Ok j
run_reads_from n s j good run = let ranged = run_in_range s j good run in reads_back_from n j (All-weaker EntryInRange FitsWords entry_fits j ranged) ranged

pub run_reads_back : (s : Scene) (j : List Entry) → InRange s → HoldRun s j → journal_of_text (journal_text j) ≡ Ok j
unfolding journal_of_text
run_reads_back s j good run = run_reads_from 1 s j good run
