-- The rectangles have a place where they have a pixel.
use Rattle.std.proofs.Common.{arith}
use Rattle.dri_flip.proofs.Rects.{touched_total}
use Rattle.dri_flip.proofs.card.FlipCard.touched_by.Goals as goal

pub returns-clause-touch : goal.returns-clause-touch
returns-clause-touch c = touched_total c.args.self.now.front.width c.args.self.now.front.height c.args.rects.now c.requires.inside c.total.result 18446744073709551615 c.total.ensures (omega arith)
