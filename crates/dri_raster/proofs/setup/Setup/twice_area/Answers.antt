-- Twice the area is small.
use Rattle.std.proofs.Common.{◌≤◌, subst, sym}
use Rattle.dri_raster.proofs.SumBounds.{area_small}
use Rattle.dri_raster.proofs.setup.Setup.twice_area.Goals as goal

pub returns-clause-small : goal.returns-clause-small
returns-clause-small c =
    subst (λ n. n ≤ 8589672450) (sym c.self.invariant.area) (area_small c.self.inside.triangle c.self.invariant.in_range)
