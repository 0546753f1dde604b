use Rattle.std.proofs.Common.{◌-◌, ◌≤◌, None, subst, sym, arith, vec_len, vec_capacity, refl, rules}
use Rattle.std.specs.Arc.{arc_value}
use Rattle.dri_base.specs.declared.journal.Entry.TheVariants.{Gone}
use Rattle.dri_core.specs.EntryTable.{LegalEntry}
use Rattle.dri_core.specs.Runs.{after}
use Rattle.dri_core.proofs.Bounds.{stamp_most}
use Rattle.dri_shared.specs.States.{MayAdd, SharedState}
use Rattle.dri_shared.proofs.Steps.{faithful, gone}
use Rattle.dri_shared.proofs.server_side.ServerSide.gone.Goals as goal

pub unmap_windows-requires-clause-counter : goal.unmap_windows-requires-clause-counter
unmap_windows-requires-clause-counter c =
    let most = stamp_most (arc_value c.shared.inside.scene) c.shared.inside.journal.items c.shared.invariant.scene c.shared.invariant.run in
    rw c.shared.invariant.world.board.last (omega (arith, most))

pub push_reserved-requires : goal.push_reserved-requires
push_reserved-requires c =
    let room : 1 ≤ vec_capacity c.shared.inside.journal - vec_len c.shared.inside.journal = subst (λ (v : SharedState). 1 ≤ v.spare) (sym c.shared.view_is) c.requires.room in omega (arith, room)

pub invariant_of-shared-2 : goal.invariant_of-shared-2
invariant_of-shared-2 c =
    let i = c.shared.inside in let s = arc_value i.scene in let j = i.journal.items in let n = c.args.client in let good = c.shared.invariant.scene in let run = c.shared.invariant.run in
    let legal : LegalEntry s (after s j) (Gone n) = subst (λ v. MayAdd v (Gone n)) (sym c.shared.view_is) c.requires.legal in
    faithful s j c.push_reserved.new.self.items i.holdings (record i.holdings { card = c.unmap_windows.new.card; board = c.unmap_windows.new.board; holder = None; left = 0 }) (Gone n) c.shared.invariant
    legal c.push_reserved.ensures.items
    (gone s i.holdings (after s j) n c.shared.invariant.world c.unmap_windows.new.board c.unmap_windows.new.card c.in_ok-unmap_windows.ensures.ok)

pub returns-clause-made : goal.returns-clause-made
returns-clause-made c = rw (← c.shared.view_is) (record { borrow = refl; added = record { scene = refl; journal = c.push_reserved.ensures.items; spare = search rules } })
