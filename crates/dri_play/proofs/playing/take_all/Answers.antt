use Rattle.std.proofs.Common.{◌∙◌, ap, subst, sym}
use Rattle.dri_base.specs.declared.scene.Scene.{Scene}
use Rattle.dri_play.proofs.Taking.{events_on, flags_on}
use Rattle.dri_world.proofs.Rounding.{may_take}
use Rattle.dri_world.specs.Courses.{Course, MayTake}
use Rattle.dri_play.proofs.playing.take_all.Goals as goal

pub take-requires : goal.take-requires
take-requires c =
    let same = c.loop-i.invariant.made.scene ∙ ap (λ (w : Course). w.scene) c.requires.opening in
    subst (λ (s : Scene). MayTake s c.get.result.now) (sym same) (may_take c.args.scene.now c.loop-i.i c.get.result.now c.requires.range c.get.ensures)

pub loop-i-preserved : goal.loop-i-preserved
loop-i-preserved c = record {
  made = events_on c.args.scene.now c.args.world.now c.loop-i.world c.take.new.world c.args.scene.now.turns c.loop-i.i c.get.result.now c.requires.opening c.get.ensures c.loop-i.invariant.made c.in_ok-flag.ensures.made;
  flags = flags_on c.args.scene.now c.args.world.now c.loop-i.world c.args.scene.now.turns c.loop-i.i c.get.result.now c.loop-i.passed c.push.new.self c.in_ok-flag.flag c.requires.opening c.get.ensures c.loop-i.invariant.made c.loop-i.invariant.flags c.in_ok-flag.ensures.told c.in_ok-push.ensures.ok;
}
