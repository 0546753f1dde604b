-- The header and the rows so far were taken.
use Rattle.std.proofs.Common.{◌*◌, ◌++◌, take}
use Rattle.std.specs.List.{flat_map}
use Rattle.dri_ppm.proofs.Sending.{Sent}
use Rattle.dri_ppm.specs.Ppm.{channels, header, ppm}
use Rattle.dri_ppm.proofs.write.write_ppm.Given as goal

abbrev pub invariant-loop-y : goal.invariant-loop-y
invariant-loop-y g l =
    let plane = l.fn.plane in
    Sent (g.N.Sink.held l.fn.sink) (g.N.Sink.held l.sink) (g.N.Sink.faults l.fn.sink) (g.N.Sink.faults l.sink) (g.N.Sink.takes l.fn.sink) (g.N.Sink.takes l.sink)
    (header plane.width plane.height ++ flat_map channels (take (l.y * l.columns) l.pixels)) (ppm plane.width plane.height plane.pixels)
