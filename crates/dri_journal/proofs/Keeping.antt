-- What a replay keeps stays faithful with one entry more.
use Rattle.std.proofs.Common.{◌≡◌, ◌≢◌, ◌<◌, ◌∙◌, ℕ, zero, suc, List, [], ◌∷◌, ◌++◌, Bool, true, false, Some, length, get_or, refl, sym, ap, subst, arith, inl, inr}
use Rattle.std.proofs.Math.ListN.{set, length-set}
use Rattle.std.specs.Prelude.{◌⊎◌, AllPairs, nat_lt, slice_get}
use Rattle.std.specs.List.{All}
use Rattle.std.specs.Option.{option_map}
use Rattle.std.proofs.lemmas.Bool.{cases_eq, true≢false}
use Rattle.std.proofs.lemmas.Bool.Decides.{nat_tests}
use Rattle.std.proofs.lemmas.List.{get_or-set_same, get_or-set_other}
use Rattle.std.proofs.lemmas.Option.{get_or_from_slice_get, slice_get-get_or, slice_get-map, slice_get_within}
use Rattle.dri_base.specs.Ranges.{InRange, client_numbers}
use Rattle.dri_base.specs.Scenes.{script_of}
use Rattle.dri_base.specs.declared.journal.Entry.{Entry}
use Rattle.dri_base.specs.declared.journal.Entry.TheVariants as Entry_is
use Rattle.dri_base.specs.declared.scene.ClientScript.{ClientScript}
use Rattle.dri_base.specs.declared.scene.Scene.{Scene}
use Rattle.dri_base.proofs.RangeLemmas.{number_of_script}
use Rattle.dri_client.specs.Kept.{IsKept}
use Rattle.dri_client.specs.Parts.{Agrees, PartState}
use Rattle.dri_clips.specs.Boards.{Screen}
use Rattle.dri_clips.specs.SceneBoards.{IsBoardOf}
use Rattle.dri_core.specs.EntryTable.{LegalEntry, after_entry}
use Rattle.dri_core.specs.Runs.{after, after_entries, client_of}
use Rattle.dri_core.specs.Worlds.{World, opening}
use Rattle.dri_core.proofs.Laws.{HoldRun-push, after-push, foreign_entries}
use Rattle.dri_journal.specs.Acts.{is_quiet}
use Rattle.dri_journal.specs.Remains.{AreMarksOf, ArePartsOf, IsFaithful, IsPartOf}
use Rattle.dri_journal.specs.Tallies.{IsTallyOf}
use Rattle.dri_journal.specs.declared.marks.Marks.{Marks}
use Rattle.dri_journal.specs.declared.tally.Tally.{Tally}
use Rattle.dri_meaning.specs.Reports as Reports
use Rattle.dri_meaning.specs.Reports.{tally, tally_after, tally_from}
use Rattle.dri_texheap.specs.RegionStates.{AreRegionsOf, RegionState}
use Rattle.dri_core.proofs.Lists.{apart, number_at, unwritten, written}

-- the tally of one entry more
tally_more : (s : Scene) (w : World) (t : Reports.Tally) (es : List Entry) (e : Entry) → tally_from s w t (es ++ e ∷ []) ≡ tally_after s (after_entries s w es) e (tally_from s w t es)
tally_more s w t [] e = refl
tally_more s w t (x ∷ xs) e = tally_more s (after_entry s w x) (tally_after s w x t) xs e

pub tally-push : (s : Scene) (j : List Entry) (e : Entry) → tally s (j ++ e ∷ []) ≡ tally_after s (after s j) e (tally s j)
tally-push s j e = tally_more s (opening s) (record { frames = 0; stood = 0; standing = λ c. Reports.NoClear }) j e

-- one entry more
pub faithful : (s : Scene) (j k : List Entry) (e : Entry) (board board' : Screen) (regions regions' : RegionState) (parts parts' : List PartState) (t t' : Tally) (m m' : Marks) →
    IsFaithful s j board regions parts t m → LegalEntry s (after s j) e → k ≡ j ++ e ∷ [] →
    IsBoardOf s (after_entry s (after s j) e).stack (after_entry s (after s j) e).stamps (after_entry s (after s j) e).counter board' →
    AreRegionsOf s (after_entry s (after s j) e).heap regions' → ArePartsOf s (after_entry s (after s j) e) parts' →
    IsTallyOf s (tally_after s (after s j) e (tally s j)) t' → AreMarksOf (after_entry s (after s j) e) m' → IsFaithful s k board' regions' parts' t' m'
faithful s j k e board board' regions regions' parts parts' t t' m m' good legal more b r p ta ma = rw more (record {
  scene = good.scene;
  run = HoldRun-push s j e good.run legal;
  windows = rw after-push b;
  memory = rw after-push r;
  clients = rw after-push p;
  counts = rw tally-push ta;
  world = rw after-push ma;
})

pub some_one : {A : Type 0} {x y : A} → Some x ≡ Some y → x ≡ y
some_one e = cc

-- two clients at two places
pub other_client : (s : Scene) (c i k : ℕ) (p : ClientScript) → InRange s → slice_get s.clients i ≡ Some (script_of s c) → slice_get s.clients k ≡ Some p → k ≢ i → p.number ≢ c
other_client s c i k p good at_i at_k ne = apart (client_numbers s.clients) i k c p.number good.scripted.rising (number_at s.clients i (script_of s c) at_i ∙ ap Some (number_of_script s.clients c)) (number_at s.clients k p at_k) ne

one : (e : Entry) (m : ℕ) → client_of e ≢ m → All (λ x. client_of x ≢ m) (e ∷ [])
one e m ne zero d l = ne
one e m ne (suc k) d l = absurd (omega arith)

-- the parts after an entry of client c, whose part is written
pub parts_step : (s : Scene) (w : World) (e : Entry) (c i : ℕ) (parts : List PartState) (new : PartState) → InRange s → client_of e ≡ c → slice_get s.clients i ≡ Some (script_of s c) → ArePartsOf s w parts →
    Agrees new ((after_entry s w e).client c) → IsKept (script_of s c) s.regions new → new.placed.region_size ≡ s.region_size → ArePartsOf s (after_entry s w e) (set parts i new)
parts_step s w e c i parts new good own there are agrees kept sized = record { room = length-set parts i new ∙ are.room; each = each }
  where
    each : (k : ℕ) (p : ClientScript) (part : PartState) → slice_get s.clients k ≡ Some p → slice_get (set parts i new) k ≡ Some part → IsPartOf s (after_entry s w e) p part
    each k p part at_p at_part = by_place (cases_eq k i)
      where
        by_place : (k ≡ i) ⊎ (k ≡ i → ⊥) → IsPartOf s (after_entry s w e) p part
        by_place (inl same) =
            let script : script_of s c ≡ p = some_one (sym there ∙ ap (slice_get s.clients) (sym same) ∙ at_p) in
            let is : part ≡ new = written parts i new part (subst (λ n. slice_get (set parts i new) n ≡ Some part) same at_part) in
            subst (λ (q : ClientScript). IsPartOf s (after_entry s w e) q part) script (subst (λ (x : PartState). IsPartOf s (after_entry s w e) (script_of s c) x) (sym is)
            (record { agrees = subst (λ n. Agrees new ((after_entry s w e).client n)) (sym (number_of_script s.clients c)) agrees; kept = kept; size = sized }))
        by_place (inr other) =
            let old = are.each k p part at_p (unwritten parts i k new part other at_part) in
            let foreign : (after_entry s w e).client p.number ≡ w.client p.number = foreign_entries s w (e ∷ []) p.number (one e p.number (λ same. other_client s c i k p good there at_p other (sym same ∙ own))) in
            record { agrees = subst (Agrees part) (sym foreign) old.agrees; kept = old.kept; size = old.size }

-- the parts where no client's changes
pub parts_stay : (s : Scene) (w v : World) (parts : List PartState) → v.client ≡ w.client → ArePartsOf s w parts → ArePartsOf s v parts
parts_stay s w v parts same are = record { room = are.room; each = λ i p part at_p at_part. let old = are.each i p part at_p at_part in record { agrees = rw same old.agrees; kept = old.kept; size = old.size } }

-- the part that stands at the place of its client's script
pub part_found : (s : Scene) (w : World) (c i : ℕ) (parts : List PartState) (part : PartState) → ArePartsOf s w parts → slice_get s.clients i ≡ Some (script_of s c) → part ≡ get_or parts i part → Agrees part (w.client c) × IsKept (script_of s c) s.regions part × (part.placed.region_size ≡ s.region_size)
part_found s w c i parts part are there is =
    let below : i < length parts = rw are.room (slice_get_within s.clients i (script_of s c) there) in
    let own = are.each i (script_of s c) part there (slice_get-get_or parts i part below ∙ ap Some (sym is)) in
    (subst (λ n. Agrees part (w.client n)) (number_of_script s.clients c) own.agrees, own.kept, own.size)

-- a quiet entry leaves the windows
pub board_stays : (s : Scene) (w : World) (e : Entry) (board : Screen) → is_quiet e ≡ true → IsBoardOf s w.stack w.stamps w.counter board → IsBoardOf s (after_entry s w e).stack (after_entry s w e).stamps (after_entry s w e).counter board
board_stays s w (Entry_is.Change i) board quiet b = absurd (true≢false (sym quiet))
board_stays s w (Entry_is.Gone c) board quiet b = absurd (true≢false (sym quiet))
board_stays s w _ board quiet b = b
