-- What the lines that are left lead to is what all lead to; the bytes that were taken are those of the lines before.
use Rattle.std.proofs.Common.{◌≡◌, ◌+◌, ◌≤◌, length}
use Rattle.dri_scene.specs.Soundness.{IsSound}
use Rattle.dri_scene.specs.Readings.{begun, up_to_done}
use Rattle.dri_words.specs.Lines.{text_size}
use Rattle.dri_scene.proofs.part.up_to_done.Given as goal

abbrev pub invariant-loop-line : goal.invariant-loop-line
invariant-loop-line l = record {
  judged : up_to_done l.number l.taken l.reading l.lines ≡ begun l.fn.bytes;
  counted : l.taken + text_size l.lines ≡ 1 + length l.fn.bytes;
  sound : IsSound l.reading;
  below : l.number ≤ l.taken + 1;
}

abbrev pub decreases-loop-line : goal.decreases-loop-line
decreases-loop-line l = length l.lines
