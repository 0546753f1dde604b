-- The block's lines, part by part.
use Rattle.std.proofs.Common.{codes, rules}
use Rattle.dri_scene.specs.Texts.{change_words}
use Rattle.dri_scene.proofs.Joins.{added_none, adds_same, block_pieces, joined, on_ok}
use Rattle.dri_scene.proofs.print.push_server.Goals as goal

pub returns : goal.returns
returns c = on_ok c.push_bytes-2.result (λ e.
    let all = joined c.in_ok-push_bytes.ensures (joined c.in_ok-push_changes.ensures (joined e (added_none _))) in
    adds_same all (block_pieces (codes "server") change_words c.args.changes.now (λ none. absurd (search rules)))) c.push_bytes-2.ensures
