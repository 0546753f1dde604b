-- The own colours are those along the row.
use Rattle.std.proofs.Common.{ℤ, ap}
use Rattle.dri_base.specs.declared.colour.Rgba.{Rgba}
use Rattle.dri_base.specs.declared.shape.Triangle.{Triangle}
use Rattle.dri_base.specs.declared.state.TexMode.TheVariants.{Modulate}
use Rattle.dri_base.specs.Coverage.{quantity}
use Rattle.dri_base.specs.Fragments.{textured}
use Rattle.dri_walk.specs.Samplings.{sampled}
use Rattle.dri_walk.proofs.colouring.ModulatedColouring.start.Goals as goal

pub returns-clause-same : goal.returns-clause-same
returns-clause-same g c =
    ap {B = Triangle → ℤ → ℤ → Rgba} (λ own t x y. textured Modulate (sampled c.args.self.now.sampler.now (quantity t (λ v. v.s) x y) (quantity t (λ v. v.t) x y)) (own t x y)) c.start.ensures.same
