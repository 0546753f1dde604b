use Rattle.std.proofs.Common.{◌≤◌, ◌∙◌, List, Option, ap, sym, subst, arith}
use Rattle.std.specs.Prelude.{IfSome}
use Rattle.dri_base.specs.declared.texture.Texture.{Texture}
use Rattle.dri_base.proofs.RegionSizes.{region_size_within}
use Rattle.dri_model.specs.Heaps.{Spot}
use Rattle.dri_client.specs.Kept.{IsKept}
use Rattle.dri_texheap.specs.RegionStates.{IsInside}
use Rattle.dri_client.specs.Textures.{shape_in}
use Rattle.dri_client.proofs.Owned.{shape_sides}
use Rattle.dri_client.proofs.part.ClientPart.bound_texture.Goals as goal

pub base-requires-clause-size : goal.base-requires-clause-size
base-requires-clause-size c = (region_size_within c.args.scene.now.region_size c.requires.card.sized).1

pub base-requires-clause-first : goal.base-requires-clause-first
base-requires-clause-first c =
    let kept = subst (IsKept c.args.script.now c.args.scene.now.regions) (sym c.self.view_is) c.requires.kept in
    let inside : IsInside c.args.scene.now.regions c.in_ok-spot.spot.run = subst (λ (o : Option Spot). IfSome o (λ s. IsInside c.args.scene.now.regions s.run)) (sym c.in_ok-spot.ensures) (kept.inside.placed c.in_ok-number.number) in
    omega (arith, inside, c.requires.card.regions.1)

pub base-requires-clause-block : goal.base-requires-clause-block
base-requires-clause-block c =
    let kept = subst (IsKept c.args.script.now c.args.scene.now.regions) (sym c.self.view_is) c.requires.kept in
    subst (λ (o : Option Spot). IfSome o (λ s. s.block ≤ 1024)) (sym c.in_ok-spot.ensures) (kept.blocks c.in_ok-number.number)

pub returns-clause-in_range : goal.returns-clause-in_range
returns-clause-in_range c =
    shape_sides c.args.script.now c.in_ok-number.number c.in_ok-shape.shape c.requires.script
    (sym (c.in_ok-shape.ensures ∙ ap (λ (ts : List Texture). shape_in ts c.in_ok-number.number) c.as_slice.ensures))
