use Rattle.std.proofs.Common.{Some, subst, sym}
use Rattle.std.specs.Arc.{arc_value}
use Rattle.dri_base.specs.declared.journal.Entry.TheVariants.{Light}
use Rattle.dri_core.specs.Runs.{after}
use Rattle.dri_shared.specs.States.{MayAdd}
use Rattle.dri_shared.proofs.Steps.{faithful, light}
use Rattle.dri_shared.proofs.client_side.ClientSide.light.Goals as goal

pub invariant_of-shared : goal.invariant_of-shared
invariant_of-shared c =
    let i = c.shared.inside in let s = arc_value i.scene in let j = i.journal.items in
    faithful s j c.push_reserved.new.self.items i.holdings (record i.holdings { holder = Some c.args.self.now.client }) (Light c.args.self.now.client) c.shared.invariant
    (subst (λ v. MayAdd v (Light c.args.self.now.client)) (sym c.shared.view_is) c.requires.legal) c.push_reserved.ensures.items
    (light s i.holdings (after s j) c.args.self.now.client c.shared.invariant.world)
