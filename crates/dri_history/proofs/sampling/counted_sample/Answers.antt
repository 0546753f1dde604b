-- The three planes at the place.
use Rattle.dri_history.proofs.Placing.{sampled}
use Rattle.dri_history.proofs.sampling.counted_sample.Goals as goal

pub returns : goal.returns
returns g c = λ back front held shown. sampled c.args.card.now c.args.x c.args.y c.get-front.result c.get-colour.result c.get-depth.result c.requires.sides c.requires.column c.requires.row (rw c.front.ensures at c.get-front.ensures.pixel) (rw c.back.ensures at c.get-colour.ensures.pixel) (rw c.depth.ensures at c.get-depth.ensures.pixel) back front held shown
