-- Nothing was read.
use Rattle.std.proofs.Common.{List, [], ℕ, refl, Option, Some, None}
use Rattle.std.specs.Io.KnownBytes.{Consumes}

pub consumes_nothing : (left : Option (List ℕ)) → Consumes left left []
consumes_nothing None = tt
consumes_nothing (Some bytes) = refl
