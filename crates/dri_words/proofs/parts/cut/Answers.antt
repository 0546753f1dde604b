-- The first separator cuts.
use Rattle.std.proofs.Common.{add-one, arith}
use Rattle.dri_words.proofs.Splits.{cut_at, not_cut}
use Rattle.dri_words.proofs.parts.cut.Goals as goal

pub returns-then-b-separator : goal.returns-then-b-separator
returns-then-b-separator c =
    let s = c.args.separator in
    let cut = cut_at s c.loop-i.i c.args.bytes.now (omega arith) c.loop-i.invariant c.if-b-separator.true in
    rw (c.split_at.ensures.front, c.split_at-then-b-separator.ensures.back, add-one) cut

pub returns : goal.returns
returns c = not_cut c.args.separator c.args.bytes.now (λ k below. c.loop-i.invariant k (omega arith))
