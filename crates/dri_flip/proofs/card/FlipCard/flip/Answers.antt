-- The planes are exchanged.
use Rattle.dri_flip.proofs.Meant.{flipped_meaning}
use Rattle.dri_flip.proofs.card.FlipCard.flip.Goals as goal

pub returns : goal.returns
returns c = flipped_meaning c.self.inside c.args.self.now c.swap.new.x c.self.view_is c.requires c.swap.ensures.x_after
