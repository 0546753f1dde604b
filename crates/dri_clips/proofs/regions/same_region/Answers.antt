use Rattle.std.proofs.Common.{refl, arith, ◌∙◌, sym}
use Rattle.dri_clips.proofs.Comparing.{same_by_get, so_far}
use Rattle.dri_clips.proofs.regions.same_region.Goals as goal

pub loop-i-preserved : goal.loop-i-preserved
loop-i-preserved c = so_far _ _ c.loop-i.i _ _ c.loop-i.invariant c.rect.ensures c.rect-in-loop-i.ensures (c.same_rect.ensures.0 c.if-not-same_rect.false)

pub returns : goal.returns
returns c = (λ t. same_by_get _ _ (sym c.len.ensures ∙ c.if-len.false ∙ c.len-2.ensures) (λ k b. c.loop-i.invariant k (omega (arith, c.len-i-end.ensures, c.loop-i-test.false))), λ e. refl)
