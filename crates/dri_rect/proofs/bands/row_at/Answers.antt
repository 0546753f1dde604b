use Rattle.std.proofs.Common.{◌≡◌, [], ◌++◌, sym, subst, w32, arith, rules}
use Rattle.std.specs.Prelude.{ℤ, ◌<ℤ◌, ◌≤ℤ◌}
use Rattle.std.proofs.lemmas.Int.{ints, to_z-of_z}
use mir.Val.{SFits}
use Rattle.dri_rect.specs.Walk.{StretchDown}
use Rattle.dri_rect.proofs.BandWalks.{row_in, row_out}
use Rattle.dri_rect.proofs.bands.row_at.Goals as goal

pub returns-then-head-y : goal.returns-then-head-y
returns-then-head-y c =
    let bands = c.args.bands in
    let f : SFits w32 c.in-Some.head.now.y1 = search rules in
    let g : SFits w32 c.in-Some.head.now.y2 = search rules in
    let l : c.in-Some.head.now.y1 ≤ℤ c.args.y = grind (arith, ints, to_z-of_z) in
    subst (λ (m : ℤ). StretchDown (bands.first.now ++ bands.below.now) c.args.y bands.first.now m) (sym (to_z-of_z w32 c.in-Some.head.now.y2 g))
    (row_in bands.first.now bands.below.now c.in-Some.head.now _ c.args.y c.in-Some.ensures.cases.0 c.requires.bands c.requires.cut c.requires.ahead l)

pub returns-else-head-y : goal.returns-else-head-y
returns-else-head-y c =
    let bands = c.args.bands in
    let f : SFits w32 c.in-Some.head.now.y1 = search rules in
    let l : c.args.y <ℤ c.in-Some.head.now.y1 = grind (arith, ints, to_z-of_z) in
    let none : c.split_at.result.0.now ≡ [] = cc in
    subst (λ (m : ℤ). StretchDown (bands.first.now ++ bands.below.now) c.args.y c.split_at.result.0.now m) (sym (to_z-of_z w32 c.in-Some.head.now.y1 f))
    (rw none (row_out bands.first.now bands.below.now c.in-Some.head.now _ c.args.y c.in-Some.ensures.cases.0 c.requires.bands l))
