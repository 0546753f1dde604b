-- The words of the line, piece by piece.
use Rattle.std.proofs.Common.{[], ◌∷◌}
use Rattle.std.specs.List.{flat_map}
use Rattle.dri_scene.specs.declared.words.Word.TheVariants as words
use Rattle.dri_scene.specs.Texts.{hex}
use Rattle.dri_scene.proofs.Joins.{joined, on_ok, put_before}
use Rattle.dri_scene.proofs.print.push_texture.Goals as goal

pub returns : goal.returns
returns c =
    let t = c.args.texture.now in
    let put = words.Number t.number ∷ words.Format t.shape.format ∷ words.Number t.shape.width ∷ words.Number t.shape.height ∷ [] in
    record {
      text = on_ok c.end_line.result (λ e. let all = joined c.in_ok-push_bytes.ensures (put_before put (flat_map hex t.bytes ∷ []) c.in_ok-push_words.ensures.text (joined c.in_ok-push_image.ensures.text e)) in all) c.end_line.ensures;
      stored = on_ok c.end_line.result (λ e. c.in_ok-push_image.ensures.stored) c.end_line.ensures;
    }
