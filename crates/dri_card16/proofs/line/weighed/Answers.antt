-- A mean is no greater than both.
use Rattle.std.proofs.Common.{◌≡◌, ◌≤◌, ◌+◌, ◌*◌, ◌/◌, sym, subst, arith}
use Rattle.dri_card16.proofs.LineParts.{mean_bounded}
use Rattle.dri_card16.proofs.line.weighed.Goals as goal

pub overflow_cast-result : goal.overflow_cast-result
overflow_cast-result c =
    let small : (c.args.p * c.args.u + c.args.q * c.args.v) / (c.args.p + c.args.q) ≤ 65535 = mean_bounded c.args.p c.args.u c.args.q c.args.v 65535 (omega (arith, c.ranges.u)) (omega (arith, c.ranges.v)) in
    grind (arith, small, c.times.ensures.value, c.times-2.ensures.value)

pub returns-clause-most : goal.returns-clause-most
returns-clause-most c k hu hv =
    let sums : c.times.result + c.times-2.result ≡ c.args.p * c.args.u + c.args.q * c.args.v = λ i. c.times.ensures.value i + c.times-2.ensures.value i in
    let whole : c.from.result ≡ c.args.p + c.args.q = omega (arith, c.from.ensures) in
    subst (λ n. n ≤ k) (sym (λ i. sums i / whole i)) (mean_bounded c.args.p c.args.u c.args.q c.args.v k hu hv)
