-- The word, and one number more.
use Rattle.std.proofs.Common.{rules}
use Rattle.dri_lab_run.proofs.Lines.{put_number, put_word}
use Rattle.dri_lab_run.proofs.event_line.push_numbered.Goals as goal

pub loop-number-init : goal.loop-number-init
loop-number-init c = put_word c.args.label.now c.in_ok-push_word.ensures

pub loop-number-preserved : goal.loop-number-preserved
loop-number-preserved c = put_number c.args.label.now c.args.numbers.now c.loop-number.number-index _ (search rules) c.loop-number.invariant c.in_ok-push_words.ensures.text
