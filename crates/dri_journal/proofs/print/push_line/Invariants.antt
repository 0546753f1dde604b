-- The word and the numbers so far.
use Rattle.std.proofs.Common.{◌≡◌, ◌<◌, ◌^◌, ◌++◌, All, take}
use Rattle.std.specs.List.{flat_map}
use Rattle.dri_journal.specs.Journals.{spaced}
use Rattle.dri_journal.proofs.print.push_line.Given as goal

abbrev pub invariant-loop-number : goal.invariant-loop-number
invariant-loop-number l = record {
  line : l.bytes.items ≡ l.fn.bytes.items ++ (l.word ++ flat_map spaced (take l.number-index l.numbers));
  fit : All (λ n. n < 2 ^ 32) (take l.number-index l.numbers);
}
