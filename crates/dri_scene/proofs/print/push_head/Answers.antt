-- The words of the line, piece by piece.
use Rattle.dri_scene.proofs.Joins.{added_none, joined, on_ok}
use Rattle.dri_scene.proofs.print.push_head.Goals as goal

pub returns : goal.returns
returns c = record { text = on_ok c.push_twice_numbered.result (λ e. let all = joined c.in_ok-push_bytes.ensures (joined c.in_ok-push_screen.ensures.text (joined e (added_none _))) in all) c.push_twice_numbered.ensures; stored = on_ok c.push_twice_numbered.result (λ e. c.in_ok-push_screen.ensures.stored) c.push_twice_numbered.ensures }
