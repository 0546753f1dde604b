use Rattle.dri_model.specs.Stacks.{is_touched}
use Rattle.dri_clips.specs.Layouts.{IsRestamped}
use Rattle.dri_clips.proofs.stamps.restamp.Given as goal

abbrev pub invariant-loop-number : goal.invariant-loop-number
invariant-loop-number l = IsRestamped (is_touched l.old.width l.old.height l.old.stack l.new) l.number l.counter l.stamps l.out
