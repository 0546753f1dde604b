-- The words of the line, piece by piece.
use Rattle.std.proofs.Common.{[]}
use Rattle.dri_scene.specs.Texts.{corner_words}
use Rattle.dri_scene.proofs.Joins.{carried, joined, on_ok}
use Rattle.dri_scene.proofs.print_command.push_triangle.Goals as goal

pub returns : goal.returns
returns c = record {
  text = on_ok c.end_line.result (λ e.
      let t = c.args.triangle.now in
      let all = joined c.in_ok-push_bytes.ensures (carried (c.in_ok-push_corner.ensures.text (corner_words t.b (corner_words t.c []))) (carried (c.in_ok-push_corner-2.ensures.text (corner_words t.c [])) (carried (c.in_ok-push_corner-3.ensures.text []) e))) in all) c.end_line.ensures;
  stored = on_ok c.end_line.result (λ e. (c.in_ok-push_corner.ensures.stored, c.in_ok-push_corner-2.ensures.stored, c.in_ok-push_corner-3.ensures.stored)) c.end_line.ensures;
}
