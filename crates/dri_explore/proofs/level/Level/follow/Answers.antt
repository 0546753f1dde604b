use Rattle.std.specs.Arc.{arc_value}
use Rattle.dri_explore.proofs.Steps.{goes_kept, goes_over}
use Rattle.dri_explore.proofs.level.Level.follow.Goals as goal

pub returns-then-not-branch : goal.returns-then-not-branch
returns-then-not-branch c = let s = arc_value c.args.scene.now in
    goes_over s c.args.node.now c.args.items.now c.loop-i.i c.args.limit c.get.result.now c.args.self.now c.loop-i.self c.put.new.self c.in_ok-next.next c.in_ok-put.field-0 c.requires.in_range c.requires.one_more c.loop-i.invariant c.in_ok-next.ensures c.in_ok-put.ensures c.if-not-branch.true

pub loop-i-preserved : goal.loop-i-preserved
loop-i-preserved c = let s = arc_value c.args.scene.now in
    goes_kept s c.args.node.now c.args.items.now c.loop-i.i c.args.limit c.get.result.now c.args.self.now c.loop-i.self c.put.new.self c.in_ok-next.next c.in_ok-put.field-0 c.requires.in_range c.get.ensures c.requires.one_more c.loop-i.invariant c.in_ok-next.ensures c.in_ok-put.ensures c.if-not-branch.false
