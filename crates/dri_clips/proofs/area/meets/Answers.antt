use Rattle.std.proofs.Common.{refl, sym, ◌∙◌, arith}
use Rattle.dri_clips.proofs.Areas.{meets_all, meets_found, meets_more}
use Rattle.dri_clips.proofs.area.meets.Goals as goal

pub returns-then-share_pixel : goal.returns-then-share_pixel
returns-then-share_pixel c = sym (meets_found c.args.area.now c.loop-i.i c.rect.result c.args.rect.now c.rect.ensures (sym c.share_pixel.ensures ∙ c.if-share_pixel.true))

pub loop-i-preserved : goal.loop-i-preserved
loop-i-preserved c = meets_more c.args.area.now c.loop-i.i _ c.rect.result c.args.rect.now refl c.rect.ensures c.loop-i.invariant (sym c.share_pixel.ensures ∙ c.if-share_pixel.false)

pub returns : goal.returns
returns c = sym (meets_all c.args.area.now c.loop-i.i c.args.rect.now (omega (arith, c.len-i-end.ensures, c.loop-i-test.false)) c.loop-i.invariant)
