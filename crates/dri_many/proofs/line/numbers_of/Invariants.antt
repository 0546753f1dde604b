-- The numbers that were read, before those that the words that are left spell, are those of all words.
use Rattle.std.proofs.Common.{◌≡◌, length}
use Rattle.dri_many.specs.Lines.{numbers_of}
use Rattle.dri_many.proofs.Accumulating.{behind}
use Rattle.dri_many.proofs.line.numbers_of.Given as goal

abbrev pub invariant-loop-words : goal.invariant-loop-words
invariant-loop-words l = behind l.numbers (numbers_of l.words) ≡ numbers_of l.fn.words

abbrev pub decreases-loop-words : goal.decreases-loop-words
decreases-loop-words l = length l.words
