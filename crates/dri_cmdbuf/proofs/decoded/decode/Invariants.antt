use Rattle.std.proofs.Common.{◌≡◌, ℕ, ◌<◌, ◌%◌, get_or, true}
use Rattle.dri_cmdbuf.specs.Decoding.{is_good}
use Rattle.dri_cmdbuf.proofs.decoded.decode.Given as goal

abbrev pub invariant-loop-at : goal.invariant-loop-at
invariant-loop-at l = (i : ℕ) → i < l.at → is_good (i % 13) (get_or l.words i 0) ≡ true
