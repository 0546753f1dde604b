-- Front, back and depth.
use Rattle.std.proofs.Common.{[], ◌∷◌, ◌++◌, codes, map}
use Rattle.dri_scene.specs.declared.words.Word.TheVariants as words
use Rattle.dri_scene.specs.Texts.{spelled}
use Rattle.dri_scene.proofs.Joins.{on_ok}
use Rattle.dri_lab_run.proofs.Lines.{put_more}
use Rattle.dri_lab_run.proofs.touch_line.push_samples.Goals as goal

pub returns : goal.returns
returns c =
    let t = c.args.touch.now in
    let front = codes "front" ∷ map spelled (words.Colour t.before.front ∷ words.Colour t.after.front ∷ []) in
    let back = codes "back" ∷ map spelled (words.Colour t.before.back.colour ∷ words.Colour t.after.back.colour ∷ []) in
    let depth = codes "depth" ∷ map spelled (words.Small t.before.back.depth ∷ words.Small t.after.back.depth ∷ []) in
    on_ok c.push_labelled-3.result (λ put. put_more front (back ++ depth) c.in_ok-push_labelled.ensures (put_more back depth c.in_ok-push_labelled-2.ensures put)) c.push_labelled-3.ensures
