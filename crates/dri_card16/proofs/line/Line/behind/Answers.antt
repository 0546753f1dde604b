-- The centre isn't before the lower end.
use Rattle.std.proofs.Common.{w32, FitsSigned, arith}
use Rattle.std.proofs.lemmas.Int.{ints}
use Rattle.dri_card16.proofs.LineParts.{centre_between}
use Rattle.dri_card16.proofs.line.Line.behind.Goals as goal

pub ahead_of-requires-clause-behind : goal.ahead_of-requires-clause-behind
ahead_of-requires-clause-behind c =
    let b = centre_between c.args.self.now c.args.n c.requires.pixel in
    omega (arith, ints, b.0, c.middle.ensures.value)

pub returns-clause-value : goal.returns-clause-value
returns-clause-value c =
    let n_fits = c.ranges.n in
    let x_fits : FitsSigned w32 c.args.self.now.first.x = omega (arith, ints, c.requires.in_range.0.0) in
    let m_fits : FitsSigned w32 c.middle.result = omega (arith, ints) in
    omega (arith, ints, c.ahead_of.ensures, c.middle.ensures.value)

pub returns-clause-small : goal.returns-clause-small
returns-clause-small c =
    let b = centre_between c.args.self.now c.args.n c.requires.pixel in
    omega (arith, ints, b.0, b.1, c.ahead_of.ensures, c.middle.ensures.value, c.requires.in_range.0.0, c.requires.in_range.1.0)
