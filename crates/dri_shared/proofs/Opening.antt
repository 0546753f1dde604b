-- The opening.
use Rattle.std.proofs.Common.{◌≡◌, ◌<◌, ℕ, List, [], length, None, false, refl, slice_index_or}
use Rattle.dri_base.specs.Ranges.{InRange}
use Rattle.dri_base.specs.declared.scene.Scene.{Scene}
use Rattle.dri_card.specs.Contents.{Contents, IsOpening}
use Rattle.dri_clips.specs.Boards.{Screen}
use Rattle.dri_clips.specs.Boards as Boards
use Rattle.dri_shared.specs.Holdings.{IsFaithful}
use Rattle.dri_texheap.specs.RegionStates.{RegionState, heap_of}

-- the value of a scene at the opening
pub opened : (s : Scene) (card : Contents) (board : Screen) (regions : RegionState) (places : List ℕ) → InRange s → IsOpening s card → Boards.IsOpening s board →
    heap_of regions ≡ record { global = 0; used = λ k. false; shared = λ k. false; age = λ k. 0 } → regions.count ≡ s.regions → length places ≡ 33 → ((c : ℕ) → c < 33 → slice_index_or places c 0 ≡ 1) →
    IsFaithful s [] (record { card = card; board = board; regions = regions; places = places; owner = 0; holder = None; left = 1; made = 0 })
opened s card board regions places good c b heap count room each = record {
  scene = good;
  run = tt;
  world = record {
    card = record { sides = c.sides; shown = c.shown; held = c.held; loaded = c.registers; bytes = c.bytes; uploads = c.memory };
    board = record { width = b.width; height = b.height; root = b.root; windows = b.stack; given = b.stamps; last = b.counter };
    regions = record { count = count; ages = heap };
    places = record { room = room; each = each };
    owner = refl;
    holder = refl;
    left = refl;
    made = refl;
  };
}
