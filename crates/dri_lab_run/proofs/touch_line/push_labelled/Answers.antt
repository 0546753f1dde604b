-- The label, and the words behind it.
use Rattle.std.proofs.Common.{[], ◌∷◌, map}
use Rattle.dri_scene.specs.Texts.{spelled}
use Rattle.dri_scene.proofs.Joins.{on_ok}
use Rattle.dri_lab_run.proofs.Lines.{put_more, put_values, put_word}
use Rattle.dri_lab_run.proofs.touch_line.push_labelled.Goals as goal

pub returns : goal.returns
returns c =
    let label = c.args.label.now in
    let words = c.args.words.now in
    on_ok c.push_words.result (λ put. put_more (label ∷ []) (map spelled words) (put_word label c.in_ok-push_word.ensures) (put_values words put)) c.push_words.ensures.text
