-- What the lines that are left lead to is what all lines lead to.
use Rattle.std.proofs.Common.{◌≡◌, ◌+◌, ◌≤◌, length}
use Rattle.dri_words.specs.Lines.{text_size}
use Rattle.dri_words.specs.Parts.{parts_at}
use Rattle.dri_many.specs.Readings.{groups_from, opening}
use Rattle.dri_many.specs.Soundness.{IsSound}
use Rattle.dri_many.proofs.read.read_groups.Given as goal

abbrev pub invariant-loop-line : goal.invariant-loop-line
invariant-loop-line l = record {
  judged : groups_from l.scene l.number l.reading l.lines ≡ groups_from l.scene l.first_line opening (parts_at 10 l.bytes);
  room : l.number + text_size l.lines ≤ 4294967296;
  sound : IsSound l.scene l.reading;
}

abbrev pub decreases-loop-line : goal.decreases-loop-line
decreases-loop-line l = length l.lines
