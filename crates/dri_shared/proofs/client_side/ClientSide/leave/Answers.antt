use Rattle.std.proofs.Common.{◌+◌, ◌<◌, None, subst, sym, arith, inl, inr}
use Rattle.std.specs.Arc.{arc_value}
use Rattle.dri_base.specs.declared.journal.Entry.TheVariants.{Leave}
use Rattle.dri_core.specs.EntryTable.{LegalEntry}
use Rattle.dri_core.specs.Phases.{Ask, Over}
use Rattle.dri_core.specs.Runs.{after}
use Rattle.dri_shared.specs.States.{MayAdd}
use Rattle.dri_shared.proofs.Clients.{client_below}
use Rattle.dri_shared.proofs.Steps.{faithful, leave}
use Rattle.dri_shared.proofs.client_side.ClientSide.leave.Goals as goal

pub overflow_add-shared : goal.overflow_add-shared
overflow_add-shared c =
    let i = c.shared.inside in let s = arc_value i.scene in let j = i.journal.items in
    let legal : LegalEntry s (after s j) (Leave c.args.self.now.client) = subst (λ v. MayAdd v (Leave c.args.self.now.client)) (sym c.shared.view_is) c.requires.legal in
    let below : c.args.self.now.client < 33 = elim legal [
      | inl over ↦ client_below s j c.shared.invariant.scene c.shared.invariant.run c.args.self.now.client Over over (λ e. cc)
      | inr ask ↦ client_below s j c.shared.invariant.scene c.shared.invariant.run c.args.self.now.client Ask ask (λ e. cc)
    ] in omega arith

pub invariant_of-shared : goal.invariant_of-shared
invariant_of-shared c =
    let i = c.shared.inside in let s = arc_value i.scene in let j = i.journal.items in
    faithful s j c.push_reserved.new.self.items i.holdings (record i.holdings { holder = None; left = c.args.self.now.client + 1 }) (Leave c.args.self.now.client) c.shared.invariant
    (subst (λ v. MayAdd v (Leave c.args.self.now.client)) (sym c.shared.view_is) c.requires.legal) c.push_reserved.ensures.items
    (leave s i.holdings (after s j) c.args.self.now.client c.shared.invariant.world)
