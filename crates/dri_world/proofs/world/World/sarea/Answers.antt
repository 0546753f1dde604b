use Rattle.std.proofs.Common.{◌≡◌, ◌∙◌, ap, subst}
use Rattle.std.specs.Prelude.{IfOk}
use Rattle.std.specs.Arc.{arc_value}
use Rattle.std.proofs.lemmas.Result.{IfOk-weaker}
use Rattle.dri_base.specs.declared.scene.Scene.{Scene}
use Rattle.dri_core.specs.CoreRuns.{world_of}
use Rattle.dri_core.specs.Cores.{word_number}
use Rattle.dri_core.specs.Worlds.{World}
use Rattle.dri_sarea.specs.Areas.{Area}
use Rattle.dri_shared.specs.Areas.{area_of}
use Rattle.dri_shared.specs.States as States
use Rattle.dri_world.specs.Courses.{Course, core_of}
use Rattle.dri_world.proofs.Held.{world_is}
use Rattle.dri_world.proofs.world.World.sarea.Goals as goal

pub returns : goal.returns
returns c =
    let v = c.self.inside.site.shared in
    let s = arc_value c.self.inside.scene in
    let w : Course = record { scene = s; events = c.self.inside.events.items } in
    let same = ap (λ (t : Scene). area_of t (States.world_of v) c.number-word.result) c.self.invariant.scene
    ∙ ap (λ (t : World). area_of s t c.number-word.result) (world_is _ _ _ _ c.self.invariant)
    ∙ ap (area_of s (core_of w).world) (c.number-word.ensures ∙ ap word_number c.self.invariant.word) in
    subst (λ (t : Course). IfOk c.sarea.result (λ area. area ≡ area_of t.scene (world_of t.scene t.events) (word_number (core_of t).word))) c.self.view_is
    (IfOk-weaker c.sarea.result (λ (area : Area). area ≡ area_of v.scene (States.world_of v) c.number-word.result) _ (λ area e. e ∙ same) c.sarea.ensures)
