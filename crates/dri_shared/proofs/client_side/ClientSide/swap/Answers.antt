use Rattle.std.proofs.Common.{◌+◌, ◌≡◌, slice_index_or, slice_set, subst, sym, arith, true, refl, rules}
use Rattle.std.specs.Arc.{arc_value}
use Rattle.dri_base.specs.Scenes.{command_at}
use Rattle.dri_base.specs.declared.journal.Entry.TheVariants.{Run}
use Rattle.dri_core.specs.EntryTable.{LegalEntry}
use Rattle.dri_core.specs.Phases.{In}
use Rattle.dri_core.specs.Runs.{after}
use Rattle.dri_shared.proofs.Steps.{faithful}
use Rattle.dri_shared.specs.States.{MayAdd, SharedState, world_of}
use Rattle.dri_shared.specs.Copies.{IsCopyOf}
use Rattle.dri_shared.proofs.Clients.{client_below, copy_stays, current, place_small}
use Rattle.dri_core.specs.Solo.{is_swap}
use Rattle.dri_shared.specs.Commands.{next_command, next_run}
use Rattle.dri_shared.proofs.Ran.{ran_swap}
use Rattle.dri_shared.proofs.client_side.ClientSide.swap.Goals as goal

pub bounds-shared-inside-client : goal.bounds-shared-inside-client
bounds-shared-inside-client c =
    let i = c.shared.inside in let s = arc_value i.scene in let j = i.journal.items in let n = c.args.self.now.client in let good = c.shared.invariant.scene in let run = c.shared.invariant.run in
    let legal : LegalEntry s (after s j) (next_run (after s j) n) = subst (λ v. MayAdd v (next_run (world_of v) n)) (sym c.shared.view_is) c.requires.legal in
    let below = client_below s j good run n In legal.0 (λ e. cc) in
    below

pub swap_clips-requires-clause-within : goal.swap_clips-requires-clause-within
swap_clips-requires-clause-within c =
    let i = c.shared.inside in let s = arc_value i.scene in let j = i.journal.items in let n = c.args.self.now.client in let good = c.shared.invariant.scene in let run = c.shared.invariant.run in
    let legal : LegalEntry s (after s j) (next_run (after s j) n) = subst (λ v. MayAdd v (next_run (world_of v) n)) (sym c.shared.view_is) c.requires.legal in
    let below = client_below s j good run n In legal.0 (λ e. cc) in
    let copy : IsCopyOf c.args.clips.now ((after s j).client n).copy = subst (λ (v : SharedState). IsCopyOf c.args.clips.now ((world_of v).client n).copy) (sym c.shared.view_is) c.requires.clips in
    copy_stays s (after s j) n ((after s j).client n).copy c.args.clips.now i.holdings.card copy (current s j good run n legal.0).copy c.shared.invariant.world.card.sides.front_width c.shared.invariant.world.card.sides.front_height

pub overflow_add-shared : goal.overflow_add-shared
overflow_add-shared c =
    let i = c.shared.inside in let s = arc_value i.scene in let j = i.journal.items in let n = c.args.self.now.client in let good = c.shared.invariant.scene in let run = c.shared.invariant.run in
    let legal : LegalEntry s (after s j) (next_run (after s j) n) = subst (λ v. MayAdd v (next_run (world_of v) n)) (sym c.shared.view_is) c.requires.legal in
    let below = client_below s j good run n In legal.0 (λ e. cc) in
    let here : slice_index_or i.holdings.places n 0 ≡ ((after s j).client n).place = c.shared.invariant.world.places.each n below in
    omega (arith, here, place_small s j good run n)

pub bounds-shared-inside-client-2 : goal.bounds-shared-inside-client-2
bounds-shared-inside-client-2 c =
    let i = c.shared.inside in let s = arc_value i.scene in let j = i.journal.items in let n = c.args.self.now.client in let good = c.shared.invariant.scene in let run = c.shared.invariant.run in
    let legal : LegalEntry s (after s j) (next_run (after s j) n) = subst (λ v. MayAdd v (next_run (world_of v) n)) (sym c.shared.view_is) c.requires.legal in
    let below = client_below s j good run n In legal.0 (λ e. cc) in
    below

pub invariant_of-shared : goal.invariant_of-shared
invariant_of-shared c =
    let i = c.shared.inside in let s = arc_value i.scene in let j = i.journal.items in let n = c.args.self.now.client in let good = c.shared.invariant.scene in let run = c.shared.invariant.run in
    let legal : LegalEntry s (after s j) (next_run (after s j) n) = subst (λ v. MayAdd v (next_run (world_of v) n)) (sym c.shared.view_is) c.requires.legal in
    let below = client_below s j good run n In legal.0 (λ e. cc) in
    let here : slice_index_or i.holdings.places n 0 ≡ ((after s j).client n).place = c.shared.invariant.world.places.each n below in
    let command : is_swap (command_at s n (slice_index_or i.holdings.places n 0)) ≡ true = subst (λ k. is_swap (command_at s n k) ≡ true) (sym here) (subst (λ (v : SharedState). is_swap (next_command v.scene (world_of v) n) ≡ true) (sym c.shared.view_is) c.requires.command) in
    let copy : IsCopyOf c.args.clips.now ((after s j).client n).copy = subst (λ (v : SharedState). IsCopyOf c.args.clips.now ((world_of v).client n).copy) (sym c.shared.view_is) c.requires.clips in
    faithful s j c.push_reserved.new.self.items i.holdings (record i.holdings { card = c.swap_clips.new.card; places = slice_set i.holdings.places n (slice_index_or i.holdings.places n 0 + 1) }) (Run n (slice_index_or i.holdings.places n 0)) c.shared.invariant
    (subst (λ k. LegalEntry s (after s j) (Run n k)) (sym here) legal) c.push_reserved.ensures.items
    (ran_swap s i.holdings (after s j) n (slice_index_or i.holdings.places n 0) c.shared.invariant.world below c.args.clips.now c.swap_clips.new.card command copy c.swap_clips.ensures.shown c.swap_clips.ensures.others c.swap_clips.ensures.sides)

pub returns : goal.returns
returns c =
    let i = c.shared.inside in let s = arc_value i.scene in let j = i.journal.items in let n = c.args.self.now.client in let good = c.shared.invariant.scene in let run = c.shared.invariant.run in
    let legal : LegalEntry s (after s j) (next_run (after s j) n) = subst (λ v. MayAdd v (next_run (world_of v) n)) (sym c.shared.view_is) c.requires.legal in
    let below = client_below s j good run n In legal.0 (λ e. cc) in
    let here : slice_index_or i.holdings.places n 0 ≡ ((after s j).client n).place = c.shared.invariant.world.places.each n below in
    rw (← c.shared.view_is, ← here) (record { same = record { borrow = refl; client = refl }; added = record { scene = refl; journal = c.push_reserved.ensures.items; spare = search rules } })
