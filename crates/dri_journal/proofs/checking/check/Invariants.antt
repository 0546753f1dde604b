-- The entries so far were taken, and are a hold-run.
use Rattle.std.proofs.Common.{◌≡◌, take}
use Rattle.dri_core.specs.Runs.{HoldRun}
use Rattle.dri_journal.proofs.checking.check.Given as goal

abbrev pub invariant-loop-taken : goal.invariant-loop-taken
invariant-loop-taken l = record {
  scene : l.replay.scene ≡ l.fn.scene;
  entries : l.replay.entries ≡ take l.taken l.entries;
  run : HoldRun l.fn.scene (take l.taken l.entries);
}
