-- What the lines that are left lead to is what all lead to.
use Rattle.std.proofs.Common.{◌≡◌, ◌+◌, ◌≤◌, length}
use Rattle.dri_base.specs.Limits.{word_end}
use Rattle.dri_words.specs.Lines.{ends, text_size}
use Rattle.dri_words.proofs.lines.to_end.Given as goal

abbrev pub invariant-loop-line : goal.invariant-loop-line
invariant-loop-line l = record {
  judged : ends l.number l.rest ≡ ends l.first l.fn.rest;
  room : l.number + text_size l.rest ≤ word_end;
}

abbrev pub decreases-loop-line : goal.decreases-loop-line
decreases-loop-line l = length l.rest
