use Rattle.std.proofs.Common.{sym, subst}
use Rattle.std.specs.Arc.{arc_value}
use Rattle.dri_explore.proofs.Finding.{at_place}
use Rattle.dri_explore.proofs.Walking.{course_step}
use Rattle.dri_world.specs.Courses.{Course, MayTake}
use Rattle.dri_explore.proofs.playing.replayed.Goals as goal

pub take-requires : goal.take-requires
take-requires c = subst (λ (w : Course). MayTake w.scene c.get.result.now) (sym c.loop-i.invariant) (at_place (MayTake (arc_value c.args.scene.now)) c.args.items.now c.loop-i.i c.get.result.now c.get.ensures c.requires.may)

pub loop-i-preserved : goal.loop-i-preserved
loop-i-preserved c = course_step (arc_value c.args.scene.now) c.loop-i.world c.take.new.self c.args.items.now c.loop-i.i c.get.result.now c.get.ensures c.loop-i.invariant c.in_ok-take.ensures.made
