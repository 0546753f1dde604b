use Rattle.std.proofs.Common.{arith}
use Rattle.dri_journal.proofs.Counting.{few_frames}
use Rattle.dri_journal.proofs.checking.report_of.Goals as goal

pub overflow_cast-result-2 : goal.overflow_cast-result-2
overflow_cast-result-2 c = omega (arith, c.frames.ensures, (few_frames c.args.replay.now.scene c.args.replay.now.entries).0, c.requires)

pub overflow_cast-result-3 : goal.overflow_cast-result-3
overflow_cast-result-3 c = omega (arith, c.stood.ensures, (few_frames c.args.replay.now.scene c.args.replay.now.entries).1, c.requires)
