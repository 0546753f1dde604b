use Rattle.std.proofs.Common.{◌≡◌, ◌<◌, ℕ, false}
use Rattle.dri_model.specs.Shares.{fits_above}
use Rattle.dri_texheap.specs.Placements.{levels_of}
use Rattle.dri_texheap.proofs.placed.Placed.room.Given as goal

abbrev pub invariant-loop-first : goal.invariant-loop-first
invariant-loop-first l = (k : ℕ) → k < l.first → fits_above l.self.region_size l.blocks (levels_of l.self k) ≡ false
