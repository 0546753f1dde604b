use Rattle.std.proofs.Common.{subst}
use Rattle.dri_rect.specs.Extents.{Holds}
use Rattle.dri_rect.proofs.Bounds.{holds_either}
use Rattle.dri_rect.proofs.region.Region.unite.Goals as goal

pub combined-requires : goal.combined-requires
combined-requires g c = rw c.hull-bounds.ensures (holds_either c.self.inside.bounds c.other.inside.bounds _ _ (subst (Holds c.self.inside.bounds) c.self.view_is c.self.invariant.holds) (subst (Holds c.other.inside.bounds) c.other.view_is c.other.invariant.holds))
