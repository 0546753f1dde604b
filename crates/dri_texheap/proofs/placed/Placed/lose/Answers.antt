-- The shared regions lie inside.
use Rattle.std.proofs.Common.{◌≡◌, ◌<◌, ℕ, Some, subst, sym}
use Rattle.dri_texheap.specs.Placements.{Placements, levels_of}
use Rattle.dri_texheap.proofs.placed.Placed.lose.Goals as goal

pub lose_levels-requires : goal.lose_levels-requires
lose_levels-requires c = subst (λ (p : Placements). (k level : ℕ) → levels_of p k ≡ Some level → k < c.args.regions.now.count) (sym c.self-2.view_is) c.requires.shared
