-- The words of the line, piece by piece.
use Rattle.std.proofs.Common.{[], ◌∷◌, ◌++◌, ap, codes, map}
use Rattle.dri_scene.specs.declared.words.Word.TheVariants as words
use Rattle.dri_scene.specs.Texts.{spelled}
use Rattle.dri_scene.proofs.Joins.{adds_same, joined, on_ok}
use Rattle.dri_lab_run.proofs.Lines.{put_end, put_more, put_values, put_word}
use Rattle.dri_lab_run.specs.PlaceHistory.{clip_words, kind_word, sample_words}
use Rattle.dri_lab_run.proofs.touch_line.push_touch.Goals as goal

pub returns : goal.returns
returns c =
    let t = c.args.touch.now in
    let number = words.Number t.entry ∷ [] in
    let client = codes "client" ∷ map spelled (words.Number t.client ∷ []) in
    let clip = clip_words t.clip in
    let samples = sample_words t in
    let kind = kind_word t.kind ∷ [] in
    let behind_client = put_more client (clip ++ samples) c.in_ok-push_labelled.ensures (put_more clip samples c.in_ok-push_clip.ensures c.in_ok-push_samples.ensures) in
    let behind_kind = put_more kind (client ++ (clip ++ samples)) (put_word (kind_word t.kind) (adds_same c.in_ok-push_word.ensures (ap (λ k. 32 ∷ k) c.kind_word.ensures))) behind_client in
    let all = put_more (map spelled number) (kind ++ (client ++ (clip ++ samples))) (put_values number c.in_ok-push_words.ensures.text) behind_kind in
    on_ok c.end_line.result (λ end. joined c.in_ok-push_bytes.ensures (put_end (map spelled number ++ (kind ++ (client ++ (clip ++ samples)))) all end)) c.end_line.ensures
