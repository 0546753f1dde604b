use Rattle.std.proofs.Common.{◌+◌, Some, subst, sym, arith}
use Rattle.std.specs.Arc.{arc_value}
use Rattle.dri_base.specs.declared.journal.Entry.TheVariants.{Kernel}
use Rattle.dri_core.specs.EntryTable.{LegalEntry}
use Rattle.dri_core.specs.Phases.{Out}
use Rattle.dri_core.specs.Runs.{after}
use Rattle.dri_shared.specs.States.{MayAdd}
use Rattle.dri_shared.proofs.Clients.{client_below, window_there}
use Rattle.dri_shared.proofs.Steps.{faithful, kernel}
use Rattle.dri_shared.proofs.client_side.ClientSide.kernel.Goals as goal

pub overflow_add-taken : goal.overflow_add-taken
overflow_add-taken c =
    let i = c.shared.inside in let s = arc_value i.scene in let j = i.journal.items in let n = c.args.self.now.client in let good = c.shared.invariant.scene in let run = c.shared.invariant.run in
    let legal : LegalEntry s (after s j) (Kernel n c.args.found) = subst (λ v. MayAdd v (Kernel n c.args.found)) (sym c.shared.view_is) c.requires.legal in
    let below = client_below s j good run n Out legal.0 (λ e. cc) in omega arith

pub stamp-requires : goal.stamp-requires
stamp-requires c =
    let i = c.shared.inside in let s = arc_value i.scene in let j = i.journal.items in let n = c.args.self.now.client in let good = c.shared.invariant.scene in let run = c.shared.invariant.run in
    let legal : LegalEntry s (after s j) (Kernel n c.args.found) = subst (λ v. MayAdd v (Kernel n c.args.found)) (sym c.shared.view_is) c.requires.legal in
    rw (c.shared.invariant.world.board.windows, c.window_of-window.ensures, c.deref.ensures) (window_there s j good run n Out legal.0 (λ e. cc))

pub overflow_add-shared : goal.overflow_add-shared
overflow_add-shared c =
    let i = c.shared.inside in let s = arc_value i.scene in let j = i.journal.items in let n = c.args.self.now.client in let good = c.shared.invariant.scene in let run = c.shared.invariant.run in
    let legal : LegalEntry s (after s j) (Kernel n c.args.found) = subst (λ v. MayAdd v (Kernel n c.args.found)) (sym c.shared.view_is) c.requires.legal in
    let below = client_below s j good run n Out legal.0 (λ e. cc) in omega arith

pub invariant_of-shared : goal.invariant_of-shared
invariant_of-shared c =
    let i = c.shared.inside in let s = arc_value i.scene in let j = i.journal.items in let n = c.args.self.now.client in let good = c.shared.invariant.scene in let run = c.shared.invariant.run in
    let legal : LegalEntry s (after s j) (Kernel n c.args.found) = subst (λ v. MayAdd v (Kernel n c.args.found)) (sym c.shared.view_is) c.requires.legal in
    faithful s j c.push_reserved.new.self.items i.holdings (record i.holdings { holder = Some n; owner = n + 1 }) (Kernel n c.args.found) c.shared.invariant
    legal c.push_reserved.ensures.items (kernel s i.holdings (after s j) n c.shared.invariant.world c.args.found)
