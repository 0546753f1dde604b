-- The picture is what the card's front shows.
use Rattle.dri_card16.proofs.Followed16.{picture_is}
use Rattle.dri_card16.proofs.Seen.{ok_then}
use Rattle.dri_card16.specs.Widened.{seen}
use Rattle.dri_card16.proofs.replay.picture_by.Goals as goal

pub returns : goal.returns
returns c = ok_then c.widened.result (λ picture of. picture_is c.args.replay.now c.args.card.now (seen c.front16.result.now) picture c.requires c.entries.ensures.run c.front16.ensures of) c.widened.ensures
