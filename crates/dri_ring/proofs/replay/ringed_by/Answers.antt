-- The picture is the idle engine's front.
use Rattle.std.proofs.Common.{refl}
use Rattle.dri_ring.proofs.Followed.{ringed_is}
use Rattle.dri_ring.proofs.replay.ringed_by.Goals as goal

pub returns : goal.returns
returns c =
    ringed_is c.args.replay.now c.args.followed c.idle.new.self c.front.result.now _ c.requires c.entries.ensures.run c.idle.ensures.others c.idle.ensures.planes c.front.ensures.screen c.front.ensures.whole
    c.front.ensures.front c.in_ok-picture.ensures refl refl refl
