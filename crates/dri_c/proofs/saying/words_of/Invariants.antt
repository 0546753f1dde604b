use Rattle.std.proofs.Common.{◌≡◌, ◌∷◌, decimal, map, take}
use Rattle.std.specs.String.{string_bytes}
use Rattle.dri_c.proofs.saying.words_of.Given as goal

abbrev pub invariant-loop-number : goal.invariant-loop-number
invariant-loop-number l = map string_bytes l.words.items ≡ l.word ∷ map decimal (take l.number-index l.numbers)
