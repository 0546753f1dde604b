-- The bytes so far and those of the digits that are left are the image.
use Rattle.std.proofs.Common.{◌≡◌, ◌++◌, length}
use Rattle.dri_scene.specs.Readings.{image_bytes}
use Rattle.dri_scene.proofs.reading.image_bytes.Given as goal

abbrev pub invariant-loop-rest : goal.invariant-loop-rest
invariant-loop-rest l = l.bytes ++ image_bytes l.rest ≡ image_bytes l.digits

abbrev pub decreases-loop-rest : goal.decreases-loop-rest
decreases-loop-rest l = length l.rest
