-- What a new stack leaves is shown.
use Rattle.dri_ring.proofs.Made.{show_made}
use Rattle.dri_ring.proofs.following.show.Goals as goal

pub returns : goal.returns
returns c =
    show_made c.args.replay.now c.args.client c.args.touched.now c.args.ring.now c.show.new.engine c.requires.scene c.requires.idle c.front.ensures.screen c.front.ensures.whole c.front-2.ensures.screen c.show.ensures.others c.show.ensures.planes
