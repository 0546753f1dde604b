use Rattle.std.proofs.Common.{◌≡◌, ◌∙◌, ap, subst}
use Rattle.std.specs.Arc.{arc_value}
use Rattle.dri_base.specs.Planes.{plane}
use Rattle.dri_base.specs.declared.scene.Scene.{Scene}
use Rattle.dri_core.specs.CoreRuns.{world_of}
use Rattle.dri_core.specs.Worlds.{World}
use Rattle.dri_shared.specs.States as States
use Rattle.dri_world.specs.Courses.{Course}
use Rattle.dri_world.proofs.Held.{world_is}
use Rattle.dri_world.proofs.world.World.front.Goals as goal

pub returns-clause-pixels : goal.returns-clause-pixels
returns-clause-pixels c =
    let v = c.self.inside.site.shared in
    let s = arc_value c.self.inside.scene in
    subst (λ (w : Course). c.front.result.now.pixels ≡ plane w.scene.width w.scene.height (world_of w.scene w.events).front) c.self.view_is
    (c.front.ensures.pixels ∙ ap (λ (t : Scene). plane t.width t.height (States.world_of v).front) c.self.invariant.scene
    ∙ ap (λ (w : World). plane s.width s.height w.front) (world_is _ _ _ _ c.self.invariant))
