use Rattle.std.proofs.Common.{◌≡◌, map, take}
use Rattle.dri_c.specs.Playing.{item_of}
use Rattle.dri_c.proofs.playing.items_of.Given as goal

abbrev pub invariant-loop-number : goal.invariant-loop-number
invariant-loop-number l = l.items ≡ map item_of (take l.number-index l.numbers)
