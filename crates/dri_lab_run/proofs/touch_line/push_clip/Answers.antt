-- The stamp, and the corners.
use Rattle.std.proofs.Common.{[], ◌∷◌, ap, codes, map, rules, sym, w32}
use Rattle.std.proofs.lemmas.Int.{to_z-of_z}
use mir.Val.{SFits}
use Rattle.dri_scene.specs.declared.words.Word.TheVariants as words
use Rattle.dri_scene.specs.Texts.{spelled}
use Rattle.dri_scene.proofs.Joins.{adds_same, on_ok}
use Rattle.dri_lab_run.proofs.Lines.{put_more}
use Rattle.dri_lab_run.specs.PlaceHistory.{clip_words}
use Rattle.dri_lab_run.specs.Spaces.{behind_spaces}
use Rattle.dri_lab_run.proofs.touch_line.push_clip.Goals as goal

pub returns : goal.returns
returns c =
    let clip = c.in-Some.clip in
    let left : SFits w32 clip.rect.x1 = search rules in
    let top : SFits w32 clip.rect.y1 = search rules in
    let right : SFits w32 clip.rect.x2 = search rules in
    let bottom : SFits w32 clip.rect.y2 = search rules in
    let text = simp (to_z-of_z, left, top, right, bottom) at c.push_labelled-2.ensures in
    let stamp = codes "stamp" ∷ map spelled (words.Number clip.stamp ∷ []) in
    let corners = codes "clip" ∷ map spelled (words.Signed clip.rect.x1 ∷ words.Signed clip.rect.y1 ∷ words.Signed clip.rect.x2 ∷ words.Signed clip.rect.y2 ∷ []) in
    on_ok c.push_labelled-2.result (λ put. adds_same (put_more stamp corners c.in_ok-push_labelled.ensures put) (ap (λ k. behind_spaces (clip_words k)) (sym c.in-Some.is))) text
