-- The product fits.
use Rattle.std.proofs.Common.{◌≤◌, arith}
use Rattle.std.proofs.Math.Nat.{mul-le-mul}
use Rattle.dri_card16.proofs.line.times.Goals as goal

pub overflow_mul-result : goal.overflow_mul-result
overflow_mul-result c =
    let p : c.from.result ≤ 65535 = omega (arith, c.from.ensures, c.requires) in
    let u : c.from-2.result ≤ 65535 = omega (arith, c.from-2.ensures, c.ranges.u) in
    omega (arith, mul-le-mul p u)

pub returns-clause-small : goal.returns-clause-small
returns-clause-small c =
    let p : c.from.result ≤ 65535 = omega (arith, c.from.ensures, c.requires) in
    let u : c.from-2.result ≤ 65535 = omega (arith, c.from-2.ensures, c.ranges.u) in
    omega (arith, mul-le-mul p u)
