use Rattle.std.proofs.Common.{◌+◌, ◌≡◌, slice_index_or, slice_set, subst, sym, arith, true, refl, rules, Some, ◌∙◌, ℤ, ap}
use Rattle.std.specs.Arc.{arc_value}
use Rattle.dri_base.specs.Scenes.{command_at}
use Rattle.dri_base.specs.declared.journal.Entry.TheVariants.{Run}
use Rattle.dri_core.specs.EntryTable.{LegalEntry}
use Rattle.dri_core.specs.Phases.{In}
use Rattle.dri_core.specs.Runs.{after}
use Rattle.dri_shared.proofs.Steps.{faithful}
use Rattle.dri_shared.specs.States.{MayAdd, SharedState, world_of}
use Rattle.dri_base.specs.Ranges.{IsPlace}
use Rattle.dri_base.specs.Scenes.{window_of}
use Rattle.dri_shared.specs.Copies.{IsCopyOf, corner}
use Rattle.dri_shared.proofs.Clients.{client_below, copy_stays, current, place_small, place_some}
use Rattle.dri_shared.proofs.Windows.{origin_after}
use Rattle.dri_model.specs.Heaps.{Heap}
use Rattle.dri_shared.proofs.Inside.{use_is}
use Rattle.dri_shared.proofs.Bindings.{triangle_in}
use Rattle.dri_core.proofs.Bounds.{age_most_of_all}
use Rattle.dri_base.specs.declared.command.Command.TheVariants.{Triangle}
use Rattle.dri_base.specs.declared.scene.Scene.{Scene}
use Rattle.dri_core.specs.Privates.{is_triangle, used_run}
use Rattle.dri_shared.specs.Commands.{next_command, next_run}
use Rattle.dri_shared.proofs.Ran.{ran_triangle}
use Rattle.dri_shared.proofs.client_side.ClientSide.triangle.Goals as goal

pub bounds-shared-inside-client : goal.bounds-shared-inside-client
bounds-shared-inside-client c =
    let i = c.shared.inside in let s = arc_value i.scene in let j = i.journal.items in let n = c.args.self.now.client in let good = c.shared.invariant.scene in let run = c.shared.invariant.run in
    let legal : LegalEntry s (after s j) (next_run (after s j) n) = subst (λ v. MayAdd v (next_run (world_of v) n)) (sym c.shared.view_is) c.requires.legal in
    let below = client_below s j good run n In legal.0 (λ e. cc) in
    below

pub command-requires : goal.command-requires
command-requires c =
    let i = c.shared.inside in let s = arc_value i.scene in let j = i.journal.items in let n = c.args.self.now.client in let good = c.shared.invariant.scene in let run = c.shared.invariant.run in
    let legal : LegalEntry s (after s j) (next_run (after s j) n) = subst (λ v. MayAdd v (next_run (world_of v) n)) (sym c.shared.view_is) c.requires.legal in
    let below = client_below s j good run n In legal.0 (λ e. cc) in
    let here : slice_index_or i.holdings.places n 0 ≡ ((after s j).client n).place = c.shared.invariant.world.places.each n below in
    rw here (place_some s j good run n)

pub triangle_of-triangle-requires : goal.triangle_of-triangle-requires
triangle_of-triangle-requires c =
    let i = c.shared.inside in let s = arc_value i.scene in let j = i.journal.items in let n = c.args.self.now.client in let good = c.shared.invariant.scene in let run = c.shared.invariant.run in
    let legal : LegalEntry s (after s j) (next_run (after s j) n) = subst (λ v. MayAdd v (next_run (world_of v) n)) (sym c.shared.view_is) c.requires.legal in
    let below = client_below s j good run n In legal.0 (λ e. cc) in
    let here : slice_index_or i.holdings.places n 0 ≡ ((after s j).client n).place = c.shared.invariant.world.places.each n below in
    let command : is_triangle (command_at s n (slice_index_or i.holdings.places n 0)) ≡ true = subst (λ k. is_triangle (command_at s n k) ≡ true) (sym here) (subst (λ (v : SharedState). is_triangle (next_command v.scene (world_of v) n) ≡ true) (sym c.shared.view_is) c.requires.command) in
    rw (c.command.ensures, c.deref.ensures) command

pub draw_clips-requires-clause-within : goal.draw_clips-requires-clause-within
draw_clips-requires-clause-within c =
    let i = c.shared.inside in let s = arc_value i.scene in let j = i.journal.items in let n = c.args.self.now.client in let good = c.shared.invariant.scene in let run = c.shared.invariant.run in
    let legal : LegalEntry s (after s j) (next_run (after s j) n) = subst (λ v. MayAdd v (next_run (world_of v) n)) (sym c.shared.view_is) c.requires.legal in
    let below = client_below s j good run n In legal.0 (λ e. cc) in
    let copy : IsCopyOf c.args.clips.now ((after s j).client n).copy = subst (λ (v : SharedState). IsCopyOf c.args.clips.now ((world_of v).client n).copy) (sym c.shared.view_is) c.requires.clips in
    copy_stays s (after s j) n ((after s j).client n).copy c.args.clips.now i.holdings.card copy (current s j good run n legal.0).copy c.shared.invariant.world.card.sides.front_width c.shared.invariant.world.card.sides.front_height

pub draw_clips-requires-clause-x : goal.draw_clips-requires-clause-x
draw_clips-requires-clause-x c =
    let i = c.shared.inside in let s = arc_value i.scene in let j = i.journal.items in let n = c.args.self.now.client in let good = c.shared.invariant.scene in let run = c.shared.invariant.run in
    let legal : LegalEntry s (after s j) (next_run (after s j) n) = subst (λ v. MayAdd v (next_run (world_of v) n)) (sym c.shared.view_is) c.requires.legal in
    let below = client_below s j good run n In legal.0 (λ e. cc) in
    let placed : ((after s j).client n).origin ≡ corner c.args.origin = subst (λ (v : SharedState). ((world_of v).client n).origin ≡ corner c.args.origin) (sym c.shared.view_is) c.requires.origin in
    subst (λ (p : ℤ × ℤ). IsPlace p.0) (sym (current s j good run n legal.0).place ∙ placed) (origin_after s j (window_of s n) good).0

pub draw_clips-requires-clause-y : goal.draw_clips-requires-clause-y
draw_clips-requires-clause-y c =
    let i = c.shared.inside in let s = arc_value i.scene in let j = i.journal.items in let n = c.args.self.now.client in let good = c.shared.invariant.scene in let run = c.shared.invariant.run in
    let legal : LegalEntry s (after s j) (next_run (after s j) n) = subst (λ v. MayAdd v (next_run (world_of v) n)) (sym c.shared.view_is) c.requires.legal in
    let below = client_below s j good run n In legal.0 (λ e. cc) in
    let placed : ((after s j).client n).origin ≡ corner c.args.origin = subst (λ (v : SharedState). ((world_of v).client n).origin ≡ corner c.args.origin) (sym c.shared.view_is) c.requires.origin in
    subst (λ (p : ℤ × ℤ). IsPlace p.1) (sym (current s j good run n legal.0).place ∙ placed) (origin_after s j (window_of s n) good).1

pub draw_clips-requires-clause-range : goal.draw_clips-requires-clause-range
draw_clips-requires-clause-range c =
    let i = c.shared.inside in let s = arc_value i.scene in let j = i.journal.items in let n = c.args.self.now.client in let good = c.shared.invariant.scene in let run = c.shared.invariant.run in
    let legal : LegalEntry s (after s j) (next_run (after s j) n) = subst (λ v. MayAdd v (next_run (world_of v) n)) (sym c.shared.view_is) c.requires.legal in
    let below = client_below s j good run n In legal.0 (λ e. cc) in
    let here : slice_index_or i.holdings.places n 0 ≡ ((after s j).client n).place = c.shared.invariant.world.places.each n below in
    let is : command_at s n (slice_index_or i.holdings.places n 0) ≡ Some (Triangle c.triangle_of-triangle.result) = subst (λ (t : Scene). command_at t n (slice_index_or i.holdings.places n 0) ≡ Some (Triangle c.triangle_of-triangle.result)) c.deref.ensures (sym c.command.ensures ∙ c.triangle_of-triangle.ensures) in
    triangle_in s n (slice_index_or i.holdings.places n 0) c.triangle_of-triangle.result good is

pub touch-requires-clause-inside : goal.touch-requires-clause-inside
touch-requires-clause-inside c =
    let i = c.shared.inside in let s = arc_value i.scene in let j = i.journal.items in let n = c.args.self.now.client in let good = c.shared.invariant.scene in let run = c.shared.invariant.run in
    let legal : LegalEntry s (after s j) (next_run (after s j) n) = subst (λ v. MayAdd v (next_run (world_of v) n)) (sym c.shared.view_is) c.requires.legal in
    let below = client_below s j good run n In legal.0 (λ e. cc) in
    let used : c.args.run ≡ used_run ((after s j).client n) = subst (λ (v : SharedState). c.args.run ≡ used_run ((world_of v).client n)) (sym c.shared.view_is) c.requires.run in
    rw c.shared.invariant.world.regions.count (use_is s j good run n legal.0 c.args.run used).0

pub touch-requires-clause-in_use : goal.touch-requires-clause-in_use
touch-requires-clause-in_use c =
    let i = c.shared.inside in let s = arc_value i.scene in let j = i.journal.items in let n = c.args.self.now.client in let good = c.shared.invariant.scene in let run = c.shared.invariant.run in
    let legal : LegalEntry s (after s j) (next_run (after s j) n) = subst (λ v. MayAdd v (next_run (world_of v) n)) (sym c.shared.view_is) c.requires.legal in
    let below = client_below s j good run n In legal.0 (λ e. cc) in
    let used : c.args.run ≡ used_run ((after s j).client n) = subst (λ (v : SharedState). c.args.run ≡ used_run ((world_of v).client n)) (sym c.shared.view_is) c.requires.run in
    rw c.shared.invariant.world.regions.ages (use_is s j good run n legal.0 c.args.run used).1

pub touch-requires-clause-age : goal.touch-requires-clause-age
touch-requires-clause-age c =
    let i = c.shared.inside in let s = arc_value i.scene in let j = i.journal.items in let n = c.args.self.now.client in let good = c.shared.invariant.scene in let run = c.shared.invariant.run in
    let legal : LegalEntry s (after s j) (next_run (after s j) n) = subst (λ v. MayAdd v (next_run (world_of v) n)) (sym c.shared.view_is) c.requires.legal in
    let below = client_below s j good run n In legal.0 (λ e. cc) in
    let age : i.holdings.regions.global ≡ (after s j).heap.global = ap {A = Heap} (λ h. h.global) c.shared.invariant.world.regions.ages in omega (arith, age, age_most_of_all s j good run)

pub overflow_add-shared : goal.overflow_add-shared
overflow_add-shared c =
    let i = c.shared.inside in let s = arc_value i.scene in let j = i.journal.items in let n = c.args.self.now.client in let good = c.shared.invariant.scene in let run = c.shared.invariant.run in
    let legal : LegalEntry s (after s j) (next_run (after s j) n) = subst (λ v. MayAdd v (next_run (world_of v) n)) (sym c.shared.view_is) c.requires.legal in
    let below = client_below s j good run n In legal.0 (λ e. cc) in
    let here : slice_index_or i.holdings.places n 0 ≡ ((after s j).client n).place = c.shared.invariant.world.places.each n below in
    omega (arith, here, place_small s j good run n)

pub bounds-shared-inside-client-2 : goal.bounds-shared-inside-client-2
bounds-shared-inside-client-2 c =
    let i = c.shared.inside in let s = arc_value i.scene in let j = i.journal.items in let n = c.args.self.now.client in let good = c.shared.invariant.scene in let run = c.shared.invariant.run in
    let legal : LegalEntry s (after s j) (next_run (after s j) n) = subst (λ v. MayAdd v (next_run (world_of v) n)) (sym c.shared.view_is) c.requires.legal in
    let below = client_below s j good run n In legal.0 (λ e. cc) in
    below

pub invariant_of-shared : goal.invariant_of-shared
invariant_of-shared c =
    let i = c.shared.inside in let s = arc_value i.scene in let j = i.journal.items in let n = c.args.self.now.client in let good = c.shared.invariant.scene in let run = c.shared.invariant.run in
    let legal : LegalEntry s (after s j) (next_run (after s j) n) = subst (λ v. MayAdd v (next_run (world_of v) n)) (sym c.shared.view_is) c.requires.legal in
    let below = client_below s j good run n In legal.0 (λ e. cc) in
    let here : slice_index_or i.holdings.places n 0 ≡ ((after s j).client n).place = c.shared.invariant.world.places.each n below in
    let copy : IsCopyOf c.args.clips.now ((after s j).client n).copy = subst (λ (v : SharedState). IsCopyOf c.args.clips.now ((world_of v).client n).copy) (sym c.shared.view_is) c.requires.clips in
    let placed : ((after s j).client n).origin ≡ corner c.args.origin = subst (λ (v : SharedState). ((world_of v).client n).origin ≡ corner c.args.origin) (sym c.shared.view_is) c.requires.origin in
    let used : c.args.run ≡ used_run ((after s j).client n) = subst (λ (v : SharedState). c.args.run ≡ used_run ((world_of v).client n)) (sym c.shared.view_is) c.requires.run in
    let is : command_at s n (slice_index_or i.holdings.places n 0) ≡ Some (Triangle c.triangle_of-triangle.result) = subst (λ (t : Scene). command_at t n (slice_index_or i.holdings.places n 0) ≡ Some (Triangle c.triangle_of-triangle.result)) c.deref.ensures (sym c.command.ensures ∙ c.triangle_of-triangle.ensures) in
    faithful s j c.push_reserved.new.self.items i.holdings (record i.holdings { card = c.draw_clips.new.card; regions = c.touch.new.regions; places = slice_set i.holdings.places n (slice_index_or i.holdings.places n 0 + 1) }) (Run n (slice_index_or i.holdings.places n 0)) c.shared.invariant
    (subst (λ k. LegalEntry s (after s j) (Run n k)) (sym here) legal) c.push_reserved.ensures.items
    (ran_triangle s i.holdings (after s j) n (slice_index_or i.holdings.places n 0) c.shared.invariant.world below c.triangle_of-triangle.result c.args.clips.now c.args.origin c.args.run c.draw_clips.new.card c.touch.new.regions is copy placed used c.draw_clips.ensures.held c.draw_clips.ensures.others c.draw_clips.ensures.sides c.touch.ensures.count c.touch.ensures.heap)

pub returns : goal.returns
returns c =
    let i = c.shared.inside in let s = arc_value i.scene in let j = i.journal.items in let n = c.args.self.now.client in let good = c.shared.invariant.scene in let run = c.shared.invariant.run in
    let legal : LegalEntry s (after s j) (next_run (after s j) n) = subst (λ v. MayAdd v (next_run (world_of v) n)) (sym c.shared.view_is) c.requires.legal in
    let below = client_below s j good run n In legal.0 (λ e. cc) in
    let here : slice_index_or i.holdings.places n 0 ≡ ((after s j).client n).place = c.shared.invariant.world.places.each n below in
    rw (← c.shared.view_is, ← here) (record { same = record { borrow = refl; client = refl }; added = record { scene = refl; journal = c.push_reserved.ensures.items; spare = search rules } })
