-- The number so far and the digits that are left are the whole number.
use Rattle.std.proofs.Common.{◌≡◌, ◌<◌, drop}
use Rattle.dri_words.specs.Words.{digits_from}
use Rattle.dri_words.proofs.words.digits.Given as goal

abbrev pub invariant-loop-c : goal.invariant-loop-c
invariant-loop-c l = (digits_from l.number (drop l.c-index l.word) ≡ digits_from 0 l.word) × (l.number < 10000000000)
