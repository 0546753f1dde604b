-- The quotient that rounds down.
use Rattle.std.proofs.Common.{◌≡◌, ◌↔◌, ℤ, pos, ◌+ℤ◌, ◌*ℤ◌, ◌≤ℤ◌, ◌<ℤ◌, w32, FitsSigned, arith}
use Rattle.std.proofs.lemmas.Int.{to_z-of_z, ints}
use Rattle.std.specs.Int.{int_div_euclid}
use Rattle.dri_base.specs.Ranges.{IsVertexPlace}
use Rattle.dri_raster.specs.Edges.{IsPixel}
use Rattle.dri_raster.proofs.Reach.{floor_beyond, floor_near, floor_past}
use Rattle.dri_raster.proofs.frame.past.Goals as goal

near_place : (place q : ℤ) → IsVertexPlace place → q ≡ int_div_euclid (place +ℤ pos 8) (pos 16) → IsPixel q
near_place place q h is = rw is (floor_near (place +ℤ pos 8) (omega (arith, ints)) (omega (arith, ints)))

past : (place n : ℤ) → (((pos 16 *ℤ n) +ℤ pos 8) ≤ℤ place) ↔ (n <ℤ int_div_euclid (place +ℤ pos 8) (pos 16))
past place n = (λ h. floor_past (place +ℤ pos 8) n (omega (arith, ints, h)), λ h. let least = floor_beyond (place +ℤ pos 8) n h in omega (arith, ints, least))

pub returns-clause-past : goal.returns-clause-past
returns-clause-past c n =
    let place_fits = c.ranges.place in
    let sum_fits : FitsSigned w32 (c.args.place +ℤ pos 8) = omega (arith, ints) in
    let is = simp to_z-of_z at c.div_euclid.ensures in
    let near = near_place c.args.place _ c.requires is in
    let result_fits : FitsSigned w32 c.div_euclid.result = omega (arith, ints) in
    simp to_z-of_z (rw is (past c.args.place n))

pub returns-clause-near : goal.returns-clause-near
returns-clause-near c =
    let place_fits = c.ranges.place in
    let sum_fits : FitsSigned w32 (c.args.place +ℤ pos 8) = omega (arith, ints) in
    let is = simp to_z-of_z at c.div_euclid.ensures in
    let near = near_place c.args.place _ c.requires is in
    let result_fits : FitsSigned w32 c.div_euclid.result = omega (arith, ints) in
    simp to_z-of_z near
