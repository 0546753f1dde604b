-- The parts as the run begins, and whether all clients are done.
use Rattle.std.proofs.Common.{◌≡◌, ◌∙◌, ℕ, zero, suc, List, [], ◌∷◌, ◌++◌, Bool, Some, length, refl, sym, ap, subst, arith, inl, inr}
use Rattle.std.specs.Prelude.{◌⊎◌, ◌==◌, ◌&&◌, is_none, slice_get, false}
use Rattle.std.specs.List.{list_all}
use Rattle.dri_base.specs.Ranges.{InRange}
use Rattle.dri_base.specs.Scenes.{commands_of}
use Rattle.dri_base.specs.declared.command.Command.{Command}
use Rattle.dri_base.specs.declared.journal.Entry.{Entry}
use Rattle.dri_base.specs.declared.scene.ClientScript.{ClientScript}
use Rattle.dri_base.specs.declared.scene.Scene.{Scene}
use Rattle.dri_client.specs.Kept.{IsKept}
use Rattle.dri_client.specs.Parts.{Agrees, PartState}
use Rattle.dri_clips.specs.Boards.{IsOpening, Screen}
use Rattle.dri_core.specs.Phases.{is_done}
use Rattle.dri_core.specs.Privates.{Private, opening_part}
use Rattle.dri_core.specs.Runs.{after}
use Rattle.dri_core.specs.Worlds.{World, opening}
use Rattle.dri_journal.specs.Remains.{AreMarksOf, AreOpening, ArePartsOf, IsFaithful, IsPartOf}
use Rattle.dri_journal.specs.Tallies.{IsTallyOf, no_tally}
use Rattle.dri_journal.specs.declared.marks.Marks.{Marks}
use Rattle.dri_journal.specs.declared.tally.Tally.{Tally}
use Rattle.dri_journal.proofs.Keeping.{some_one}
use Rattle.dri_journal.proofs.Restacked.{script_at}
use Rattle.dri_meaning.specs.Reports.{is_whole}
use Rattle.dri_texheap.specs.RegionStates.{RegionState, heap_of}
use Rattle.dri_core.proofs.Lists.{pushed_at}

-- a part as the run begins, with regions of so many bytes
abbrev pub Begins : ℕ → ClientScript → PartState → Type 0
Begins size p part = Agrees part (opening_part p.commands) × ((regions : ℕ) → IsKept p regions part) × (part.placed.region_size ≡ size)

-- one part more
pub one_more : (size : ℕ) (scripts : List ClientScript) (parts : List PartState) (n : ℕ) (p : ClientScript) (part : PartState) → length parts ≡ n → slice_get scripts n ≡ Some p →
    ((i : ℕ) (q : ClientScript) (x : PartState) → slice_get scripts i ≡ Some q → slice_get parts i ≡ Some x → Begins size q x) → Begins size p part →
    (i : ℕ) (q : ClientScript) (x : PartState) → slice_get scripts i ≡ Some q → slice_get (parts ++ part ∷ []) i ≡ Some x → Begins size q x
one_more size scripts parts n p part room there before begins i q x at_q at_x = by_place (pushed_at parts part i x at_x)
  where
    by_place : (slice_get parts i ≡ Some x) ⊎ ((i ≡ length parts) × (part ≡ x)) → Begins size q x
    by_place (inl old) = before i q x at_q old
    by_place (inr last) =
        let same : p ≡ q = some_one (sym there ∙ ap (slice_get scripts) (sym (last.0 ∙ room)) ∙ at_q) in
        subst (λ (r : ClientScript). Begins size r x) same (subst (Begins size p) last.1 begins)

-- the opening
pub opened : (s : Scene) (scripts : List ClientScript) (board : Screen) (regions : RegionState) (parts : List PartState) (t : Tally) (m : Marks) → InRange s → scripts ≡ s.clients → IsOpening s board →
    heap_of regions ≡ record { global = 0; used = λ k. false; shared = λ k. false; age = λ k. 0 } → regions.count ≡ s.regions → AreOpening s.region_size scripts parts → IsTallyOf s no_tally t → AreMarksOf (opening s) m → IsFaithful s [] board regions parts t m
opened s scripts board regions parts t m good is b heap count begin tally marks = record {
  scene = good;
  run = tt;
  windows = record { width = b.width; height = b.height; root = b.root; windows = b.stack; given = b.stamps; last = b.counter };
  memory = record { count = count; ages = heap };
  clients = record { room = begin.room ∙ ap (λ (ps : List ClientScript). length ps) is; each = each };
  counts = tally;
  world = marks;
}
  where
    each : (i : ℕ) (p : ClientScript) (part : PartState) → slice_get s.clients i ≡ Some p → slice_get parts i ≡ Some part → IsPartOf s (opening s) p part
    each i p part at_p at_part =
        let own = begin.each i p part (rw is at_p) at_part in
        let commands : commands_of s p.number ≡ p.commands = ap (λ (q : ClientScript). q.commands) (script_at s.clients i p good.scripted.rising at_p) in
        record { agrees = subst (λ (cs : List Command). Agrees part (opening_part cs)) (sym commands) own.0; kept = own.1 s.regions; size = own.2 }

-- all are done by their parts
all_done : (f : ℕ → Private) (ps : List ClientScript) (parts : List PartState) → length parts ≡ length ps → ((i : ℕ) (p : ClientScript) (part : PartState) → slice_get ps i ≡ Some p → slice_get parts i ≡ Some part → Agrees part (f p.number)) →
    list_all (λ (x : PartState). is_done x.phase) parts ≡ list_all (λ (p : ClientScript). is_done (f p.number).phase) ps
all_done f [] [] room each = refl
all_done f [] (x ∷ xs) room each = absurd (omega (arith, room))
all_done f (p ∷ ps) [] room each = absurd (omega (arith, room))
all_done f (p ∷ ps) (x ∷ xs) room each = λ k. is_done (each 0 p x refl refl k).phase && all_done f ps xs (omega (arith, room)) (λ i q y. each (suc i) q y) k

pub parts_done : (s : Scene) (w : World) (parts : List PartState) → ArePartsOf s w parts → list_all (λ (x : PartState). is_done x.phase) parts ≡ list_all (λ (p : ClientScript). is_done (w.client p.number).phase) s.clients
parts_done s w parts are = all_done w.client s.clients parts are.room (λ i p part at_p at_part. (are.each i p part at_p at_part).agrees)

-- whether all is done, by what a replay keeps
pub whole_is : (s : Scene) (j : List Entry) (parts : List PartState) (m : Marks) (done : Bool) → ArePartsOf s (after s j) parts → AreMarksOf (after s j) m → done ≡ list_all (λ (x : PartState). is_done x.phase) parts →
    (is_none m.holder && (done && (m.made == length s.changes))) ≡ is_whole s j
whole_is s j parts m done are marks is = λ k. is_none (marks.holder k) && ((is ∙ parts_done s (after s j) parts are) k && (marks.made k == length s.changes))
