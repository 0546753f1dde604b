use Rattle.std.proofs.Common.{arith}
use Rattle.dri_rect.proofs.Bounds.{kept_one}
use Rattle.dri_rect.proofs.region.Region.of_list.Goals as goal

pub invariant_of-result : goal.invariant_of-result
invariant_of-result c = kept_one c.args.rects.items _ _ _ (omega (arith, c.if-len-eq1.true, c.len-2.ensures)) c.index.ensures c.new.ensures.items c.requires.region
