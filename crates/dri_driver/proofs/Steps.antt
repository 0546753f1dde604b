-- The steps of a client that may act.
use Rattle.std.proofs.Common.{◌≡◌, ◌<◌, true, Some, refl, sym, ap, ◌∙◌, subst, inl, inr, ⊎_elim}
use Rattle.dri_base.specs.declared.command.Command.{Command}
use Rattle.dri_base.specs.declared.command.Command.TheVariants as Command_is
use Rattle.dri_base.specs.declared.journal.Entry.{Entry}
use Rattle.dri_base.specs.declared.journal.Entry.TheVariants as Entry_is
use Rattle.dri_base.specs.declared.journal.Event.TheVariants as Event_is
use Rattle.dri_base.specs.declared.scene.Scene.{Scene}
use Rattle.dri_base.specs.declared.shape.Triangle.{Triangle}
use Rattle.dri_core.specs.Effects.{is_last, run_by}
use Rattle.dri_core.specs.EntryTable.{after_entry}
use Rattle.dri_core.specs.Phases.{In, phase_after}
use Rattle.dri_core.specs.Privates.{Private, is_ready, textured_with}
use Rattle.dri_core.specs.Turns.{acting_turn}
use Rattle.dri_core.specs.Worlds.{World}
use Rattle.dri_core.proofs.EventTurns.{ready_turn}
use Rattle.dri_core.proofs.Parts.{put_here}
use Rattle.dri_client.specs.Parts.{part_after}
use Rattle.dri_model.specs.Groups.{is_empty}
use Rattle.dri_model.specs.Heaps.{Heap}
use Rattle.dri_shared.specs.Commands.{next_run}
use Rattle.dri_shared.specs.Sides.{Makes, client_at, value_at, world_at}
use Rattle.dri_shared.specs.declared.client_side.ClientSide.{ClientSide}
use Rattle.dri_driver.specs.Acts.{IsStep}
use Rattle.dri_driver.specs.Clients.{ClientState, next_command, part_of}
use Rattle.dri_driver.specs.Fits.{Fits, IsSameClient}
use Rattle.dri_driver.proofs.Counts.{acts_after, ran_falls}
use Rattle.dri_driver.proofs.Fitting.{made, world_added}

module _ (k l : ClientState) (a b : ClientSide) (command : Command) (here : client_at a ≡ k.number) (fits : Fits k (value_at a)) (next : next_command k ≡ Some command) (makes : Makes a b (next_run (world_at a) (client_at a))) where
  place_is : ((world_at a).client (client_at a)).place ≡ k.place
  place_is = ap (λ n. ((world_at a).client n).place) here ∙ ap (λ (p : Private). p.place) (sym fits.part)

  makes_it : Makes a b (Entry_is.Run k.number k.place)
  makes_it = subst (λ e. Makes a b e) (λ i. Entry_is.Run (here i) (place_is i)) makes

  -- the regions that it left
  pub heap_left : (h : Heap) → h ≡ (world_at b).heap → h ≡ (after_entry k.scene (world_at a) (Entry_is.Run k.number k.place)).heap
  heap_left h is = is ∙ (ap (λ (w : World). w.heap) (world_added (value_at a) (value_at b) (Entry_is.Run k.number k.place) makes_it.added) ∙ ap (λ (s : Scene). (after_entry s (world_at a) (Entry_is.Run k.number k.place)).heap) (sym fits.scene))

  -- the command was run, and was its turn
  pub run_step : (e : Entry) → 0 < k.place → k.phase ≡ In → IsSameClient k l → part_of l ≡ part_after k.scene (world_at a) (Entry_is.Run k.number k.place) k.number
      → acting_turn k.scene (world_at a) k.number (Some command) ≡ Some (Event_is.Run k.number ((world_at a).client k.number).place) → e ≡ Entry_is.Run k.number k.place → IsStep k l a b e
  run_step e started acts same part turn is = subst (λ x. IsStep k l a b x) (sym is) (record {
    event = ap (acting_turn k.scene (world_at a) k.number) next ∙ (turn ∙ ap (λ i. Some (Event_is.Run k.number i)) (ap (λ (p : Private). p.place) (sym fits.part)));
    own = refl;
    made = made k l a b (Entry_is.Run k.number k.place) fits makes_it same part;
    acting = ⊎_elim (λ on. inl (phase ∙ on)) (λ over. inr (phase ∙ over)) (acts_after command (is_last k.scene k.number k.place));
    falls = ran_falls k l command started acts next same.scene same.number (ap (λ (p : Private). p.place) ran) phase;
  })
    where
      ran : part_of l ≡ run_by k.scene (world_at a) k.number k.place
      ran = part ∙ put_here (world_at a).client k.number (run_by k.scene (world_at a) k.number k.place)

      phase : l.phase ≡ phase_after (Some command) (is_last k.scene k.number k.place)
      phase = ap (λ (p : Private). p.phase) ran ∙ ap (λ o. phase_after o (is_last k.scene k.number k.place)) next

-- the turn of a client whose next command is a triangle for which all is ready
pub triangle_turn_is : (k : ClientState) (w : World) (t : Triangle) → part_of k ≡ w.client k.number → is_ready (part_of k) ≡ true → is_empty k.dirty ≡ true → acting_turn k.scene w k.number (Some (Command_is.Triangle t)) ≡ Some (Event_is.Run k.number (w.client k.number).place)
triangle_turn_is k w t part ready clean =
    ready_turn k.scene w k.number (textured_with (w.client k.number).state) (ap is_ready (sym part) ∙ ready)
    ∙ let empty : is_empty (w.client k.number).dirty ≡ true = ap (λ (p : Private). is_empty p.dirty) (sym part) ∙ clean in rw empty refl
