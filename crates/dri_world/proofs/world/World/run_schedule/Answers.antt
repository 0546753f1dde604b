use Rattle.std.proofs.Common.{◌≡◌, ◌∙◌, Some, ap, subst}
use Rattle.std.specs.Prelude.{slice_get}
use Rattle.std.specs.Arc.{arc_value}
use Rattle.dri_base.specs.declared.scene.Scene.{Scene}
use Rattle.dri_world.specs.Courses.{Course, MayTake}
use Rattle.dri_world.proofs.Rounding.{item_on, may_take}
use Rattle.dri_world.proofs.world.World.run_schedule.Goals as goal

pub take-requires : goal.take-requires
take-requires c =
    let item = c.get-item.result.now in
    let at = subst (λ (t : Scene). slice_get t.turns c.loop-i.i ≡ Some item) c.deref-in-loop-i.ensures c.get-item.ensures in
    subst (λ (w : Course). MayTake w.scene item) c.self-in-loop-i.view_is (may_take (arc_value c.self-in-loop-i.inside.scene) c.loop-i.i item c.self-in-loop-i.invariant.good at)

pub loop-i-preserved : goal.loop-i-preserved
loop-i-preserved c =
    let old = c.args.self.now in
    let item = c.get-item.result.now in
    let same = c.deref-in-loop-i.ensures ∙ ap (λ (w : Course). w.scene) c.self-in-loop-i.view_is ∙ c.loop-i.invariant.made.scene in
    let at = subst (λ (t : Scene). slice_get t.turns c.loop-i.i ≡ Some item) same c.get-item.ensures in
    record {
      last = c.loop-i.invariant.last;
      made = item_on old c.loop-i.self c.take.new.self old.scene.turns c.loop-i.i item at c.loop-i.invariant.made c.in_ok-take.ensures.made;
    }
