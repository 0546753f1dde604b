use Rattle.std.proofs.Common.{◌+◌, ◌-◌, ◌≤◌, ◌≡◌, Some, subst, sym, arith, slice_get, vec_len, vec_capacity, refl, rules}
use Rattle.std.specs.Arc.{arc_value}
use Rattle.dri_base.specs.declared.journal.Entry.TheVariants.{Change}
use Rattle.dri_base.specs.declared.scene.Scene.{Scene}
use Rattle.dri_core.specs.EntryTable.{LegalEntry}
use Rattle.dri_core.specs.Runs.{after}
use Rattle.dri_core.proofs.Bounds.{stamp_most}
use Rattle.dri_shared.specs.States.{MayAdd, SharedState, world_of}
use Rattle.dri_shared.proofs.Steps.{changed_windows, faithful}
use Rattle.dri_shared.proofs.server_side.ServerSide.change.Goals as goal

pub change_windows-requires-clause-counter : goal.change_windows-requires-clause-counter
change_windows-requires-clause-counter c =
    let most = stamp_most (arc_value c.shared.inside.scene) c.shared.inside.journal.items c.shared.invariant.scene c.shared.invariant.run in
    rw c.shared.invariant.world.board.last (omega (arith, most))

pub overflow_add-shared : goal.overflow_add-shared
overflow_add-shared c =
    let i = c.shared.inside in let s = arc_value i.scene in let j = i.journal.items in let good = c.shared.invariant.scene in let run = c.shared.invariant.run in
    let legal : LegalEntry s (after s j) (Change ((after s j).made + 1)) = subst (λ v. MayAdd v (Change ((world_of v).made + 1))) (sym c.shared.view_is) c.requires.legal in
    omega (arith, c.shared.invariant.world.made, legal.2, good.changed.few)

pub push_reserved-requires : goal.push_reserved-requires
push_reserved-requires c =
    let room : 1 ≤ vec_capacity c.shared.inside.journal - vec_len c.shared.inside.journal = subst (λ (v : SharedState). 1 ≤ v.spare) (sym c.shared.view_is) c.requires.room in omega (arith, room)

pub invariant_of-shared-2 : goal.invariant_of-shared-2
invariant_of-shared-2 c =
    let i = c.shared.inside in let s = arc_value i.scene in let j = i.journal.items in let good = c.shared.invariant.scene in let run = c.shared.invariant.run in
    let legal : LegalEntry s (after s j) (Change ((after s j).made + 1)) = subst (λ v. MayAdd v (Change ((world_of v).made + 1))) (sym c.shared.view_is) c.requires.legal in
    let there : slice_get s.changes (after s j).made ≡ Some c.get.result.now =
    subst (λ m. slice_get s.changes m ≡ Some c.get.result.now) c.shared.invariant.world.made (subst (λ (t : Scene). slice_get t.changes i.holdings.made ≡ Some c.get.result.now) c.deref.ensures c.get.ensures) in
    faithful s j c.push_reserved.new.self.items i.holdings (record i.holdings { card = c.change_windows.new.card; board = c.change_windows.new.board; made = i.holdings.made + 1; left = 1 }) (Change (i.holdings.made + 1)) c.shared.invariant
    (subst (λ m. LegalEntry s (after s j) (Change (m + 1))) (sym c.shared.invariant.world.made) legal) c.push_reserved.ensures.items
    (changed_windows s i.holdings (after s j) c.shared.invariant.world c.get.result.now c.change_windows.new.board c.change_windows.new.card there c.in_ok-change_windows.ensures.ok)

pub returns-clause-made : goal.returns-clause-made
returns-clause-made c =
    let i = c.shared.inside in let s = arc_value i.scene in let j = i.journal.items in let good = c.shared.invariant.scene in let run = c.shared.invariant.run in
    let legal : LegalEntry s (after s j) (Change ((after s j).made + 1)) = subst (λ v. MayAdd v (Change ((world_of v).made + 1))) (sym c.shared.view_is) c.requires.legal in
    rw (← c.shared.view_is, ← c.shared.invariant.world.made) (record { borrow = refl; added = record { scene = refl; journal = c.push_reserved.ensures.items; spare = search rules } })
