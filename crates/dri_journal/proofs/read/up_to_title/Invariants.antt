-- What the lines that are left lead to is what all lead to.
use Rattle.std.proofs.Common.{◌≡◌, ◌+◌, ◌≤◌, length}
use Rattle.dri_journal.specs.Readings.{titled_from}
use Rattle.dri_journal.proofs.read.up_to_title.Given as goal
use Rattle.dri_words.specs.Lines.{text_size}

abbrev pub invariant-loop-line : goal.invariant-loop-line
invariant-loop-line l = record {
  judged : titled_from l.number l.lines ≡ titled_from 1 l.fn.lines;
  room : l.number + text_size l.lines ≤ 4294967296;
}

abbrev pub decreases-loop-line : goal.decreases-loop-line
decreases-loop-line l = length l.lines
