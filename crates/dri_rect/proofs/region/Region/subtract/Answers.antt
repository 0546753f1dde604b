use Rattle.std.proofs.Common.{refl, sym, subst, ◌∙◌}
use Rattle.dri_rect.specs.Extents.{Holds}
use Rattle.dri_rect.proofs.Bounds.{apart_copied, holds_rest}
use Rattle.dri_rect.proofs.region.Region.subtract.Goals as goal

pub returns-then-is_nowhere-clause-region : goal.returns-then-is_nowhere-clause-region
returns-then-is_nowhere-clause-region g c = apart_copied c.self.inside.bounds c.other.inside.bounds _ _ _ (subst (Holds c.self.inside.bounds) c.self.view_is c.self.invariant.holds) (subst (Holds c.other.inside.bounds) c.other.view_is c.other.invariant.holds) (sym (c.if-is_nowhere.ensures ∙ rw c.shared.ensures refl)) c.duplicate.ensures

pub combined-requires : goal.combined-requires
combined-requires g c = holds_rest c.self.inside.bounds _ _ (subst (Holds c.self.inside.bounds) c.self.view_is c.self.invariant.holds)
