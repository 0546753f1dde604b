use Rattle.std.proofs.Common.{sym, subst, w32, rules}
use Rattle.std.specs.Prelude.{ℤ}
use Rattle.std.proofs.lemmas.Int.{to_z-of_z}
use mir.Val.{SFits}
use Rattle.dri_rect.specs.Walk.{IsTop}
use Rattle.dri_rect.proofs.BandWalks.{top_some}
use Rattle.dri_rect.proofs.bands.top_of.Goals as goal

pub returns-in-Some : goal.returns-in-Some
returns-in-Some c =
    let f : SFits w32 c.in-Some.head.now.y1 = search rules in
    subst (λ (m : ℤ). IsTop c.args.rects.now m) (sym (to_z-of_z w32 c.in-Some.head.now.y1 f)) (top_some c.args.rects.now c.in-Some.head.now _ c.in-Some.ensures.cases.0 c.requires)
