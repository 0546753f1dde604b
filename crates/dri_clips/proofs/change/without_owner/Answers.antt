use Rattle.std.proofs.Common.{refl, ap, set, ◌∙◌}
use Rattle.dri_base.specs.declared.scene.Window.{Window}
use Rattle.dri_clips.proofs.Restacking.{owner_same, unmapped_more}
use Rattle.dri_clips.proofs.change.without_owner.Goals as goal

pub replace-requires-clause-same : goal.replace-requires-clause-same
replace-requires-clause-same c = owner_same c.args.owner c.loop-at.at c.args.stack.now c.window.result c.unmapped.result c.loop-at.next c.window.ensures c.loop-at.invariant c.unmapped.ensures

pub loop-at-preserved : goal.loop-at-preserved
loop-at-preserved c = unmapped_more c.args.owner c.loop-at.at _ c.args.stack.now c.window.result c.loop-at.next _ refl c.window.ensures c.loop-at.invariant (c.replace.ensures ∙ ap (λ (u : Window). set c.loop-at.next c.loop-at.at u) c.unmapped.ensures)
