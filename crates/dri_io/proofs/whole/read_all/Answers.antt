-- What was given grows by each piece.
use Rattle.std.proofs.Common.{◌++◌, take}
use Rattle.std.proofs.KnownBytes.{Consumes-trans}
use Rattle.dri_io.proofs.whole.read_all.Goals as goal

pub returns-then-is_err-clause-bytes : goal.returns-then-is_err-clause-bytes
returns-then-is_err-clause-bytes g c = record {
  given = c.loop-piece.bytes.items ++ take c.in-Ok.count c.read.new.into;
  consumed = Consumes-trans _ _ _ _ _ c.loop-piece.invariant.given c.in-Ok.ensures.bytes.0;
  answer = tt;
}
