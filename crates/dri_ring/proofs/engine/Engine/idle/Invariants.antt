-- The jobs so far ran, and what all jobs come to stays.
use Rattle.std.proofs.Common.{◌≡◌, ◌+◌, length}
use Rattle.dri_ring.specs.Rings.{OnlyRan, settled}
use Rattle.dri_ring.proofs.engine.Engine.idle.Given as goal

abbrev pub invariant-loop-ran : goal.invariant-loop-ran
invariant-loop-ran l = record {
  settled : settled l.self ≡ settled l.fn.self;
  left : length l.self.pending + l._ran ≡ length l.fn.self.pending;
  others : OnlyRan l.fn.self l.self;
}
