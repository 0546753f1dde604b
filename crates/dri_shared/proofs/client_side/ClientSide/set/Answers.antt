use Rattle.std.proofs.Common.{◌+◌, ◌≡◌, slice_index_or, slice_set, subst, sym, arith, true, refl, rules}
use Rattle.std.specs.Arc.{arc_value}
use Rattle.dri_base.specs.Scenes.{command_at}
use Rattle.dri_base.specs.declared.journal.Entry.TheVariants.{Run}
use Rattle.dri_core.specs.EntryTable.{LegalEntry}
use Rattle.dri_core.specs.Phases.{In}
use Rattle.dri_core.specs.Runs.{after}
use Rattle.dri_shared.proofs.Steps.{faithful}
use Rattle.dri_shared.specs.States.{MayAdd, SharedState, world_of}
use Rattle.dri_shared.specs.Commands.{is_setting, next_command, next_run}
use Rattle.dri_shared.proofs.Clients.{client_below, place_small}
use Rattle.dri_shared.proofs.Ran.{ran_setting}
use Rattle.dri_shared.proofs.client_side.ClientSide.set.Goals as goal

pub bounds-shared-inside-client : goal.bounds-shared-inside-client
bounds-shared-inside-client c =
    let i = c.shared.inside in let s = arc_value i.scene in let j = i.journal.items in let n = c.args.self.now.client in let good = c.shared.invariant.scene in let run = c.shared.invariant.run in
    let legal : LegalEntry s (after s j) (next_run (after s j) n) = subst (λ v. MayAdd v (next_run (world_of v) n)) (sym c.shared.view_is) c.requires.legal in
    let below = client_below s j good run n In legal.0 (λ e. cc) in
    below

pub overflow_add-shared : goal.overflow_add-shared
overflow_add-shared c =
    let i = c.shared.inside in let s = arc_value i.scene in let j = i.journal.items in let n = c.args.self.now.client in let good = c.shared.invariant.scene in let run = c.shared.invariant.run in
    let legal : LegalEntry s (after s j) (next_run (after s j) n) = subst (λ v. MayAdd v (next_run (world_of v) n)) (sym c.shared.view_is) c.requires.legal in
    let below = client_below s j good run n In legal.0 (λ e. cc) in
    let here : slice_index_or i.holdings.places n 0 ≡ ((after s j).client n).place = c.shared.invariant.world.places.each n below in
    omega (arith, here, place_small s j good run n)

pub bounds-shared-inside-client-2 : goal.bounds-shared-inside-client-2
bounds-shared-inside-client-2 c =
    let i = c.shared.inside in let s = arc_value i.scene in let j = i.journal.items in let n = c.args.self.now.client in let good = c.shared.invariant.scene in let run = c.shared.invariant.run in
    let legal : LegalEntry s (after s j) (next_run (after s j) n) = subst (λ v. MayAdd v (next_run (world_of v) n)) (sym c.shared.view_is) c.requires.legal in
    let below = client_below s j good run n In legal.0 (λ e. cc) in
    below

pub invariant_of-shared : goal.invariant_of-shared
invariant_of-shared c =
    let i = c.shared.inside in let s = arc_value i.scene in let j = i.journal.items in let n = c.args.self.now.client in let good = c.shared.invariant.scene in let run = c.shared.invariant.run in
    let legal : LegalEntry s (after s j) (next_run (after s j) n) = subst (λ v. MayAdd v (next_run (world_of v) n)) (sym c.shared.view_is) c.requires.legal in
    let below = client_below s j good run n In legal.0 (λ e. cc) in
    let here : slice_index_or i.holdings.places n 0 ≡ ((after s j).client n).place = c.shared.invariant.world.places.each n below in
    let command : is_setting (command_at s n (slice_index_or i.holdings.places n 0)) ≡ true = subst (λ k. is_setting (command_at s n k) ≡ true) (sym here) (subst (λ (v : SharedState). is_setting (next_command v.scene (world_of v) n) ≡ true) (sym c.shared.view_is) c.requires.command) in
    faithful s j c.push_reserved.new.self.items i.holdings (record i.holdings { places = slice_set i.holdings.places n (slice_index_or i.holdings.places n 0 + 1) }) (Run n (slice_index_or i.holdings.places n 0)) c.shared.invariant
    (subst (λ k. LegalEntry s (after s j) (Run n k)) (sym here) legal) c.push_reserved.ensures.items
    (ran_setting s i.holdings (after s j) n (slice_index_or i.holdings.places n 0) c.shared.invariant.world below command)

pub returns : goal.returns
returns c =
    let i = c.shared.inside in let s = arc_value i.scene in let j = i.journal.items in let n = c.args.self.now.client in let good = c.shared.invariant.scene in let run = c.shared.invariant.run in
    let legal : LegalEntry s (after s j) (next_run (after s j) n) = subst (λ v. MayAdd v (next_run (world_of v) n)) (sym c.shared.view_is) c.requires.legal in
    let below = client_below s j good run n In legal.0 (λ e. cc) in
    let here : slice_index_or i.holdings.places n 0 ≡ ((after s j).client n).place = c.shared.invariant.world.places.each n below in
    rw (← c.shared.view_is, ← here) (record { same = record { borrow = refl; client = refl }; added = record { scene = refl; journal = c.push_reserved.ensures.items; spare = search rules } })
