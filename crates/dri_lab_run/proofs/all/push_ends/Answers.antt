-- One more.
use Rattle.std.proofs.Common.{rules, subst}
use Rattle.dri_explore.specs.declared.ends.End.{End}
use Rattle.dri_lab_run.specs.AllEnds.{end_block}
use Rattle.dri_scene.proofs.Joins.{next_piece}
use Rattle.dri_scene.specs.Texts.{Adds}
use Rattle.dri_lab_run.proofs.all.push_ends.Goals as goal

pub loop-end-preserved : goal.loop-end-preserved
loop-end-preserved c =
    next_piece end_block c.args.ends.now c.loop-end.end-index _ (search rules) c.loop-end.invariant
    (subst (λ (end : End). Adds c.loop-end.text.items (end_block end) c.push_end.new.text.items) c.end-item.is c.in_ok-push_end.ensures)
