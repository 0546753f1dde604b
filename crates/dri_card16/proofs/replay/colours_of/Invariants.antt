-- The colours so far.
use Rattle.std.proofs.Common.{◌≡◌, map, take}
use Rattle.dri_base.specs.Texels.{sixteen_bits}
use Rattle.dri_card16.proofs.replay.colours_of.Given as goal

abbrev pub invariant-loop-word : goal.invariant-loop-word
invariant-loop-word l = l.colours ≡ map sixteen_bits (take l.word-index l.words)
