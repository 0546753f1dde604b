-- The picture's line, and the journal.
use Rattle.std.proofs.Common.{ap, ◌∙◌}
use Rattle.dri_journal.specs.Journals.{journal_text}
use Rattle.dri_scene.proofs.Joins.{adds_same, joined}
use Rattle.dri_lab_run.proofs.all.push_end.Goals as goal

pub returns : goal.returns
returns c =
    let journal = adds_same c.in_ok-push_bytes-2.ensures (c.as_slice-2.ensures ∙ c.in_ok-journal.ensures.text ∙ ap journal_text c.as_slice.ensures) in
    joined (joined c.in_ok-push_bytes.ensures (joined c.in_ok-push_count.ensures c.in_ok-end_line.ensures)) journal
