-- The weights are natural numbers.
use Rattle.std.proofs.Common.{◌∙◌}
use Rattle.std.proofs.lemmas.Int.{to_z-of_z}
use Rattle.dri_card16.proofs.LineParts.{between_is}
use Rattle.dri_card16.proofs.line.Line.between.Goals as goal

pub returns-clause-value : goal.returns-clause-value
returns-clause-value c =
    let n_fits = c.ranges.n in
    let ahead = simp to_z-of_z at c.ahead.ensures.value in
    let behind = simp to_z-of_z at c.behind.ensures.value in
    c.weighed.ensures.value ∙ between_is c.args.self.now c.args.u c.args.v c.ahead.result c.behind.result c.args.n ahead behind
