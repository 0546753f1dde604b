-- The words of the line.
use Rattle.std.proofs.Common.{◌∷◌, ap}
use Rattle.dri_scene.proofs.Joins.{adds_same, joined, on_ok}
use Rattle.dri_lab_run.proofs.all.push_last.Goals as goal

pub returns : goal.returns
returns c =
    let word = adds_same c.in_ok-push_word-2.ensures (ap (λ w. 32 ∷ w) c.cut_word.ensures) in
    on_ok c.end_line.result (λ end. joined c.in_ok-push_bytes.ensures (joined c.in_ok-push_count.ensures (joined c.in_ok-push_word.ensures (joined c.in_ok-push_count-2.ensures (joined word end))))) c.end_line.ensures
