use Rattle.std.proofs.Common.{◌+◌, ◌∙◌, ap, arith, subst, sym}
use Rattle.std.specs.Arc.{arc_value}
use Rattle.std.specs.Prelude.{All}
use Rattle.dri_explore.specs.Levels.{Follows, GoesOnFrom}
use Rattle.dri_explore.proofs.Choosing.{choices_may}
use Rattle.dri_explore.proofs.Steps.{next_goes, next_level, node_at}
use Rattle.dri_world.specs.Courses.{MayTake}
use Rattle.dri_explore.proofs.level.Level.next.Goals as goal

pub follow-requires-clause-may : goal.follow-requires-clause-may
follow-requires-clause-may c = subst (All (MayTake (arc_value c.args.scene.now))) (sym c.requires.items) (choices_may (arc_value c.args.scene.now) c.requires.in_range)

pub follow-requires-clause-node : goal.follow-requires-clause-node
follow-requires-clause-node c = (node_at (arc_value c.args.scene.now) c.args.self.now c.loop-i.i c.get.result.now c.requires.level c.get.ensures).kept

pub follow-requires-clause-one_more : goal.follow-requires-clause-one_more
follow-requires-clause-one_more c = ap (λ n. n + 1) (node_at (arc_value c.args.scene.now) c.args.self.now c.loop-i.i c.get.result.now c.requires.level c.get.ensures).made ∙ sym c.loop-i.invariant.made

pub loop-i-preserved : goal.loop-i-preserved
loop-i-preserved c = let s = arc_value c.args.scene.now in
    let node = c.get.result.now in
    let goes : GoesOnFrom s node c.args.items.now c.loop-i.next c.follow.new.self = subst (λ b. Follows b s node c.args.items.now c.args.limit c.loop-i.next c.follow.new.self) c.if-not-branch.false c.in_ok-follow.ensures in
    next_goes s c.args.self.now c.loop-i.i node c.loop-i.next c.follow.new.self c.get.ensures c.loop-i.invariant (subst (λ items. GoesOnFrom s node items c.loop-i.next c.follow.new.self) c.requires.items goes)

pub returns : goal.returns
returns c = (next_level (arc_value c.args.scene.now) c.args.self.now c.loop-i.next c.loop-i.i c.requires.in_range c.requires.level (omega (arith, c.loop-i-test.false, c.len-i-end.ensures)) c.loop-i.invariant, c.loop-i.invariant.made)
