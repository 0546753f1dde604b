-- The test says what the table says.
use Rattle.std.proofs.Common.{◌≡◌, ℕ, Bool, true, Option, Some, None, List, [], ◌∷◌, arith, refl, ap, sym}
use Rattle.std.specs.Prelude.{◌==◌, ◌&&◌, not, is_none}
use Rattle.std.proofs.lemmas.Bool.Decides.{nat_tests}
use Rattle.std.proofs.lemmas.Bool.{and_parts, eqb-true, not-true, true≢false}
use Rattle.dri_base.specs.declared.journal.Entry.{Entry}
use Rattle.dri_base.specs.declared.journal.Entry.TheVariants.{Light, Kernel, Stale, Emit, Place, Run, Leave, Info, Change, Gone}
use Rattle.dri_base.specs.declared.command.Command.{Command}
use Rattle.dri_base.specs.declared.command.Command.TheVariants.{Die}
use Rattle.dri_core.specs.Phases.{Phase}
use Rattle.dri_core.specs.Phases.{In}
use Rattle.dri_base.specs.declared.scene.Scene.{Scene}
use Rattle.dri_base.specs.Scenes.{command_at, regions_needed}
use Rattle.dri_model.specs.Groups.{same_number, bits, is_empty}
use Rattle.dri_model.specs.Heaps as Heaps
use Rattle.dri_core.specs.Worlds.{World}
use Rattle.dri_core.specs.EntryTable.{LegalEntry, after_entry, is_start_for}
use Rattle.dri_core.specs.Privates.{textured_with, is_triangle, is_ready, room_in}
use Rattle.dri_core.specs.Runs.{LegalEntries}
use Rattle.dri_core.specs.Phases.{same_phase}
use Rattle.dri_core.specs.Decide.{is_die, is_legal_entry, are_legal_entries}

phase_same : (a b : Phase) → same_phase a b ≡ true → a ≡ b
phase_same a b e = grind (arith, nat_tests)

die_is : (o : Option Command) → is_die o ≡ true → o ≡ Some Die
die_is (Some Die) e = refl
die_is _ e = absurd (true≢false (sym e))

pub number_is : (o : Option ℕ) (t : ℕ) → same_number o (Some t) ≡ true → o ≡ Some t
number_is None t e = absurd (true≢false (sym e))
number_is (Some a) t e = ap Some (grind (arith, nat_tests))

number_same : (o : Option ℕ) (t : ℕ) → o ≡ Some t → same_number o (Some t) ≡ true
number_same o t e = rw e (grind (arith, nat_tests))

none_is : (o : Option Heaps.Spot) → is_none o ≡ true → o ≡ None
none_is None e = refl
none_is (Some r) e = absurd (true≢false (sym e))

five : (a b c d e : Bool) → (a && (b && (c && (d && e)))) ≡ true → (a ≡ true) × (b ≡ true) × (c ≡ true) × (d ≡ true) × (e ≡ true)
five a b c d e h =
    let p = and_parts a (b && (c && (d && e))) h in
    let q = and_parts b (c && (d && e)) p.1 in
    let r = and_parts c (d && e) q.1 in
    let t = and_parts d e r.1 in
    (p.0, q.0, r.0, t.0, t.1)

pub legal_is : (s : Scene) (w : World) (e : Entry) → is_legal_entry s w e ≡ true → LegalEntry s w e
legal_is s w (Light c) e = grind (arith, nat_tests)
legal_is s w (Kernel c found) e = grind (arith, nat_tests)
legal_is s w (Stale c) e = phase_same _ _ e
legal_is s w (Emit c groups) e =
    let h = five (same_phase (w.client c).phase In) (is_triangle (command_at s c (w.client c).place)) (is_ready (w.client c)) (groups == bits (w.client c).dirty) (not (is_empty (w.client c).dirty)) e in
    ((phase_same _ _ h.0, h.1), h.2, eqb-true groups (bits (w.client c).dirty) h.3, not-true (is_empty (w.client c).dirty) h.4)
legal_is s w (Place c t first count) e =
    let h = five (same_phase (w.client c).phase In) (is_triangle (command_at s c (w.client c).place)) (same_number (textured_with (w.client c).state) (Some t)) (is_none ((w.client c).placed t))
    ((count == regions_needed s c t) && is_start_for (room_in s c (w.client c) t) s.regions w.heap count first) e in
    let q = and_parts (count == regions_needed s c t) (is_start_for (room_in s c (w.client c) t) s.regions w.heap count first) h.4 in
    ((phase_same _ _ h.0, h.1), number_is (textured_with (w.client c).state) t h.2, none_is ((w.client c).placed t) h.3, eqb-true count (regions_needed s c t) q.0, q.1)
legal_is s w (Run c i) e = grind (arith, nat_tests)
legal_is s w (Leave c) e = grind (arith, nat_tests)
legal_is s w (Info c) e = grind (arith, nat_tests)
legal_is s w (Change i) e = grind (arith, nat_tests)
legal_is s w (Gone c) e = grind (arith, nat_tests, die_is (command_at s c (w.client c).place))

pub is_legal : (s : Scene) (w : World) (e : Entry) → LegalEntry s w e → is_legal_entry s w e ≡ true
is_legal s w (Light c) h = grind (arith, nat_tests)
is_legal s w (Kernel c found) h = grind (arith, nat_tests)
is_legal s w (Stale c) h = rw h refl
is_legal s w (Emit c groups) h = grind (arith, nat_tests)
is_legal s w (Place c t first count) h = grind (arith, nat_tests, number_same (textured_with (w.client c).state) t)
is_legal s w (Run c i) h = grind (arith, nat_tests)
is_legal s w (Leave c) h = grind (arith, nat_tests)
is_legal s w (Info c) h = grind (arith, nat_tests)
is_legal s w (Change i) h = grind (arith, nat_tests)
is_legal s w (Gone c) h = grind (arith, nat_tests)

-- the test of a list of entries is the table's
pub hold_run_from_test : (s : Scene) (w : World) (es : List Entry) → are_legal_entries s w es ≡ true → LegalEntries s w es
hold_run_from_test s w [] e = tt
hold_run_from_test s w (x ∷ xs) e = let h = and_parts (is_legal_entry s w x) (are_legal_entries s (after_entry s w x) xs) e in (legal_is s w x h.0, hold_run_from_test s (after_entry s w x) xs h.1)

pub test_from_hold_run : (s : Scene) (w : World) (es : List Entry) → LegalEntries s w es → are_legal_entries s w es ≡ true
test_from_hold_run s w [] h = refl
test_from_hold_run s w (x ∷ xs) h = rw (is_legal s w x h.0) (test_from_hold_run s (after_entry s w x) xs h.1)
