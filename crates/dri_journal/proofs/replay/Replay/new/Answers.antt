use Rattle.std.proofs.Common.{sym}
use Rattle.dri_journal.proofs.Beginning.{opened}
use Rattle.dri_journal.proofs.replay.Replay.new.Goals as goal

pub invariant_of-result : goal.invariant_of-result
invariant_of-result c = let s = c.args.scene.now in
    rw c.new-3.ensures.items (opened s c.as_slice.result.now c.in_ok-board.board c.new-4.result c.in_ok-parts.parts.items c.in_ok-tally.tally c.opening.result c.requires c.as_slice.ensures c.in_ok-board.ensures c.new-4.ensures.heap c.new-4.ensures.count c.in_ok-parts.ensures (c.in_ok-tally.ensures s (sym c.len.ensures)) (c.opening.ensures s))
