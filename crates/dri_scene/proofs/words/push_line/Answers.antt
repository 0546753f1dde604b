-- The first word, the words behind it, and the newline.
use Rattle.std.proofs.Common.{[], ◌++◌, map, ap}
use Rattle.std.proofs.lemmas.List.{append-nil}
use Rattle.dri_scene.specs.Texts.{spelled}
use Rattle.dri_words.specs.Lines.{words_bytes}
use Rattle.dri_scene.proofs.Joins.{adds_same, joined, on_ok, put_before}
use Rattle.dri_scene.proofs.words.push_line.Goals as goal

pub returns : goal.returns
returns c = record {
  text = on_ok c.end_line.result (λ e.
      let words = c.args.words.now in
      let all = joined c.in_ok-push_bytes.ensures (put_before words [] c.in_ok-push_words.ensures.text e) in
      adds_same all (ap (λ ws. c.args.name.now ++ words_bytes ws) (append-nil (map spelled words)))) c.end_line.ensures;
  stored = on_ok c.end_line.result (λ e. c.in_ok-push_words.ensures.stored) c.end_line.ensures;
}
