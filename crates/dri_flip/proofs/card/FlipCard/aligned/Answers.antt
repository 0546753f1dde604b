-- The planes have the same sides, whatever is owed.
use Rattle.dri_flip.proofs.Meant.{aligned}
use Rattle.dri_flip.proofs.card.FlipCard.aligned.Goals as goal

pub returns : goal.returns
returns c = aligned c.self.inside c.args.self.now c.self.view_is c.self.invariant
