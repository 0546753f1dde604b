use Rattle.std.proofs.Common.{subst, sym}
use Rattle.std.specs.Arc.{arc_value}
use Rattle.dri_base.specs.declared.journal.Entry.TheVariants.{Info}
use Rattle.dri_core.specs.EntryTable.{LegalEntry}
use Rattle.dri_core.specs.Phases.{Asking}
use Rattle.dri_core.specs.Runs.{after}
use Rattle.dri_shared.specs.States.{MayAdd}
use Rattle.dri_shared.proofs.Clients.{window_there}
use Rattle.dri_shared.proofs.Steps.{faithful, info}
use Rattle.dri_shared.proofs.server_side.ServerSide.info.Goals as goal

pub stamp-requires : goal.stamp-requires
stamp-requires c =
    let i = c.shared.inside in let s = arc_value i.scene in let j = i.journal.items in let n = c.args.client in let good = c.shared.invariant.scene in let run = c.shared.invariant.run in
    let legal : LegalEntry s (after s j) (Info n) = subst (λ v. MayAdd v (Info n)) (sym c.shared.view_is) c.requires.legal in
    rw (c.shared.invariant.world.board.windows, c.window_of-window.ensures, c.deref.ensures) (window_there s j good run n Asking legal.0 (λ e. cc))

pub origin-requires : goal.origin-requires
origin-requires c =
    let i = c.shared.inside in let s = arc_value i.scene in let j = i.journal.items in let n = c.args.client in let good = c.shared.invariant.scene in let run = c.shared.invariant.run in
    let legal : LegalEntry s (after s j) (Info n) = subst (λ v. MayAdd v (Info n)) (sym c.shared.view_is) c.requires.legal in
    rw (c.shared.invariant.world.board.windows, c.window_of-window.ensures, c.deref.ensures) (window_there s j good run n Asking legal.0 (λ e. cc))

pub clips-requires : goal.clips-requires
clips-requires c =
    let i = c.shared.inside in let s = arc_value i.scene in let j = i.journal.items in let n = c.args.client in let good = c.shared.invariant.scene in let run = c.shared.invariant.run in
    let legal : LegalEntry s (after s j) (Info n) = subst (λ v. MayAdd v (Info n)) (sym c.shared.view_is) c.requires.legal in
    rw (c.shared.invariant.world.board.windows, c.window_of-window.ensures, c.deref.ensures) (window_there s j good run n Asking legal.0 (λ e. cc))

pub invariant_of-shared : goal.invariant_of-shared
invariant_of-shared c =
    let i = c.shared.inside in let s = arc_value i.scene in let j = i.journal.items in let n = c.args.client in let good = c.shared.invariant.scene in let run = c.shared.invariant.run in
    let legal : LegalEntry s (after s j) (Info n) = subst (λ v. MayAdd v (Info n)) (sym c.shared.view_is) c.requires.legal in
    faithful s j c.push_reserved.new.self.items i.holdings (record i.holdings { left = 1 }) (Info n) c.shared.invariant
    legal c.push_reserved.ensures.items (info s i.holdings (after s j) n c.shared.invariant.world)
