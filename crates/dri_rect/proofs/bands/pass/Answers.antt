use Rattle.std.proofs.Common.{arith, w32, rules}
use Rattle.std.specs.Prelude.{◌≤ℤ◌}
use Rattle.std.proofs.lemmas.Int.{ints, to_z-of_z}
use mir.Val.{SFits}
use Rattle.dri_rect.proofs.BandWalks.{bands_below, pass_more}
use Rattle.dri_rect.proofs.bands.pass.Goals as goal

pub bands_of-requires : goal.bands_of-requires
bands_of-requires c = bands_below c.args.bands.first.now c.args.bands.below.now c.requires.bands

pub returns-then-head-y-clause-later : goal.returns-then-head-y-clause-later
returns-then-head-y-clause-later c =
    let g : SFits w32 c.in-Some.head.now.y2 = search rules in
    let l : c.in-Some.head.now.y2 ≤ℤ c.args.y = grind (arith, ints, to_z-of_z) in
    pass_more c.args.bands.first.now c.args.bands.below.now c.in-Some.head.now _ c.args.y _ _ c.in-Some.ensures.cases.0 c.requires.bands c.requires.cut c.requires.reaches l c.bands_of.ensures
