-- The entries that were read, before what the lines that are left lead to, are what all lines lead to.
use Rattle.std.proofs.Common.{◌≡◌, ◌+◌, ◌≤◌, length}
use Rattle.dri_journal.specs.Readings.{entries_from}
use Rattle.dri_journal.proofs.Accumulating.{behind}
use Rattle.dri_journal.proofs.read.entries_from.Given as goal
use Rattle.dri_words.specs.Lines.{text_size}

abbrev pub invariant-loop-line : goal.invariant-loop-line
invariant-loop-line l = record {
  judged : behind l.entries (entries_from l.number l.lines) ≡ entries_from l.first l.fn.lines;
  room : l.number + text_size l.lines ≤ 4294967296;
  few : length l.entries ≤ l.number;
}

abbrev pub decreases-loop-line : goal.decreases-loop-line
decreases-loop-line l = length l.lines
