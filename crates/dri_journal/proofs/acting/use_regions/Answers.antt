-- A texture that is put where the entry says.
use Rattle.std.proofs.Common.{◌≡◌, ◌∙◌, Option, true, subst}
use Rattle.std.specs.Prelude.{MatchOption}
use Rattle.dri_base.specs.Scenes.{regions_for}
use Rattle.dri_client.specs.Textures.{bytes_in}
use Rattle.dri_core.specs.Effects.{heap_placed}
use Rattle.dri_core.specs.EntryTable.{is_start_for}
use Rattle.dri_journal.proofs.Runs.{placed_is}
use Rattle.dri_journal.specs.Acts.{TakesRegions, own_room}
use Rattle.dri_model.specs.Heaps.{Spot}
use Rattle.dri_model.specs.Shares.{is_small_for}
use Rattle.dri_texheap.specs.RegionStates.{heap_of}
use Rattle.dri_journal.proofs.acting.use_regions.Goals as goal

pub returns-in-Place-clause-heap : goal.returns-in-Place-clause-heap
returns-in-Place-clause-heap c =
    let is = c.in-Place.is in
    let p = c.args.part.now in let n = c.args.regions.now.count in let h = heap_of c.args.regions.now in
    let t = c.in-Place.texture in let first = c.in-Place.first in let count = c.in-Place.count in
    let size = p.placed.region_size in let bytes = bytes_in c.args.script.now t in
    let room = own_room c.args.script.now p t in let run = c.stand.result.run in
    let needs : TakesRegions room size bytes c.args.regions.now count first = rw is at c.requires in
    let many : MatchOption room (run.count ≡ regions_for size bytes) (λ spot. run.count ≡ spot.run.count) =
    subst (λ m. MatchOption room (run.count ≡ regions_for size m) (λ spot. run.count ≡ spot.run.count)) c.bytes_in-bytes.ensures
    (subst (λ m. MatchOption room (run.count ≡ regions_for m c.bytes_in-bytes.result) (λ spot. run.count ≡ spot.run.count)) c.region_size.ensures
    (subst (λ (o : Option Spot). MatchOption o (run.count ≡ regions_for c.region_size.result c.bytes_in-bytes.result) (λ spot. run.count ≡ spot.run.count)) c.room-room.ensures c.stand.ensures.many)) in
    let start : is_start_for room n h run.count run.first ≡ true = subst (λ (o : Option Spot). is_start_for o n h run.count run.first ≡ true) c.room-room.ensures c.stand.ensures.start in
    rw is (c.stand.ensures.heap ∙ ((λ i. heap_placed (c.room-room.ensures i) (is_small_for (c.region_size.ensures i) (c.bytes_in-bytes.ensures i)) n h run)
    ∙ placed_is room (is_small_for size bytes) n h count (regions_for size bytes) first run many needs.needed start needs.start))
