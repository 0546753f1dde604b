use Rattle.std.proofs.Common.{◌∙◌, sym}
use Rattle.dri_core.specs.Turns.{round}
use Rattle.dri_explore.proofs.Walking.{kill_next, kill_skipped}
use Rattle.dri_explore.proofs.choices.choices_of.Goals.{then-is_kill+in_ok-push, else-is_kill}
use Rattle.dri_explore.proofs.choices.choices_of.Goals as goal

pub loop-i-preserved : goal.loop-i-preserved
loop-i-preserved c = elim c.if-is_kill.branch [
  | then-is_kill+in_ok-push w ↦ kill_next c.args.scene.now.turns c.loop-i.i c.get.result.now (round c.args.scene.now) c.loop-i.items c.if-is_kill.items c.get.ensures c.loop-i.invariant (sym c.is_kill.ensures ∙ w.if-is_kill.true) (w.items-is ∙ w.in_ok-push.ensures.ok)
  | else-is_kill w ↦ kill_skipped c.args.scene.now.turns c.loop-i.i c.get.result.now (round c.args.scene.now) c.if-is_kill.items c.get.ensures (w.items-is ∙ c.loop-i.invariant) (sym c.is_kill.ensures ∙ w.if-is_kill.false)
]
