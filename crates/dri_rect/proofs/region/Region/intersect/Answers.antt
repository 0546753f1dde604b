use Rattle.std.proofs.Common.{arith, refl, subst, sym, ◌∙◌}
use Rattle.dri_rect.specs.Extents.{Holds}
use Rattle.dri_rect.proofs.Bounds.{nothing_shared, shared_fits, holds_both, both_alone}
use Rattle.dri_rect.proofs.region.Region.intersect.Goals as goal

pub returns-then-is_nowhere-clause-region : goal.returns-then-is_nowhere-clause-region
returns-then-is_nowhere-clause-region g c = rw c.nothing.ensures (nothing_shared c.self.inside.bounds c.other.inside.bounds _ _ (subst (Holds c.self.inside.bounds) c.self.view_is c.self.invariant.holds) (subst (Holds c.other.inside.bounds) c.other.view_is c.other.invariant.holds) (sym (c.if-is_nowhere.ensures ∙ rw c.shared-bounds.ensures refl)))

pub alone-requires : goal.alone-requires
alone-requires g c = rw c.shared-bounds.ensures (shared_fits c.self.inside.bounds c.other.inside.bounds c.self.inside.rects.items (omega (arith, c.if-len-eq0.true, c.len.ensures)) c.self.invariant)

pub returns-then-len-eq0-2-clause-region : goal.returns-then-len-eq0-2-clause-region
returns-then-len-eq0-2-clause-region g c = both_alone c.self.inside.bounds c.other.inside.bounds _ _ _ _ c.self.inside.rects.items c.other.inside.rects.items (omega (arith, c.if-len-eq0.true, c.len.ensures)) (omega (arith, c.if-len-eq0-2.true, c.len-then-len-eq0.ensures)) c.self.view_is c.other.view_is c.shared-bounds.ensures c.alone.ensures

pub combined-requires : goal.combined-requires
combined-requires g c = rw c.shared-bounds.ensures (holds_both c.self.inside.bounds c.other.inside.bounds _ _ (subst (Holds c.self.inside.bounds) c.self.view_is c.self.invariant.holds) (subst (Holds c.other.inside.bounds) c.other.view_is c.other.invariant.holds))
