use Rattle.std.proofs.Common.{subst, sym}
use Rattle.std.specs.Arc.{arc_value}
use Rattle.dri_base.specs.declared.journal.Entry.TheVariants.{Stale}
use Rattle.dri_core.specs.Runs.{after}
use Rattle.dri_shared.specs.States.{MayAdd}
use Rattle.dri_shared.proofs.Steps.{faithful, stale}
use Rattle.dri_shared.proofs.client_side.ClientSide.stale.Goals as goal

pub invariant_of-shared : goal.invariant_of-shared
invariant_of-shared c =
    let i = c.shared.inside in let s = arc_value i.scene in let j = i.journal.items in
    faithful s j c.push_reserved.new.self.items i.holdings (i.holdings) (Stale c.args.self.now.client) c.shared.invariant
    (subst (λ v. MayAdd v (Stale c.args.self.now.client)) (sym c.shared.view_is) c.requires.legal) c.push_reserved.ensures.items
    (stale s i.holdings (after s j) c.args.self.now.client c.shared.invariant.world)
