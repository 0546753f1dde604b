use Rattle.std.proofs.Common.{arith, sym, subst, ◌∙◌}
use Rattle.dri_rect.specs.Extents.{Includes, Holds}
use Rattle.dri_rect.proofs.Bounds.{includes_round, includes_nothing}
use Rattle.dri_rect.proofs.region.Region.includes.Goals as goal

pub returns-then-reaches_round : goal.returns-then-reaches_round
returns-then-reaches_round c = λ e. subst (λ v. Includes v c.args.other.now) c.self.view_is (includes_round c.self.inside.bounds c.other.inside.bounds c.self.inside.rects.items c.args.other.now (omega (arith, c.if-len-eq0.true, c.len.ensures)) (subst (Holds c.other.inside.bounds) c.other.view_is c.other.invariant.holds) (sym c.if-reaches_round.ensures))

pub returns-then-len-eq0-2 : goal.returns-then-len-eq0-2
returns-then-len-eq0-2 c = λ e. includes_nothing c.other.inside.bounds c.args.self.now c.args.other.now c.other.inside.rects.items (omega (arith, c.if-len-eq0-2.true, c.len-2.ensures)) (sym c.other.view_is) (sym c.is_nowhere.ensures ∙ e)
