-- What a legal entry makes of the planes.
use Rattle.std.proofs.Common.{◌≡◌, ℕ, List, Bool, true, false, Option, Some, refl, ◌∙◌, inl, if◌then◌else◌}
use Rattle.std.specs.Prelude.{◌&&◌}
use Rattle.dri_base.proofs.RangeLemmas.{IsWellFormed, well_formed}
use Rattle.dri_base.specs.Ranges.{InRange}
use Rattle.dri_base.specs.Scenes.{command_at}
use Rattle.dri_base.specs.declared.command.Command.{Command}
use Rattle.dri_base.specs.declared.command.Command.TheVariants.{Swap}
use Rattle.dri_base.specs.declared.journal.Entry.{Entry}
use Rattle.dri_base.specs.declared.journal.Entry.TheVariants.{Change, Gone, Run}
use Rattle.dri_base.specs.declared.scene.Scene.{Scene}
use Rattle.dri_core.specs.Effects.{front_after}
use Rattle.dri_core.specs.EntryTable.{LegalEntry, after_entry}
use Rattle.dri_core.specs.PlaneSteps.{IsPlaneStep, back_run}
use Rattle.dri_core.specs.Runs.{HoldRun, IsCurrent, after}
use Rattle.dri_core.specs.Solo.{is_swap}
use Rattle.dri_core.specs.Worlds.{World, clips_in}
use Rattle.dri_core.proofs.Draws.{ran_back}
use Rattle.dri_core.proofs.Laws.{acting_is_current, back_left}
use Rattle.dri_core.proofs.Sound.{Sound, sound_after}

module _ (s : Scene) (w : World) (c i : ℕ) (good : IsWellFormed s) (sound : Sound s w) (legal : LegalEntry s w (Run c i)) where
  current : IsCurrent s w c
  current = acting_is_current s w sound c (inl legal.0)

  -- a swap, and any other command
  shown : (command : Option Command) (x y : ℕ) → front_after w (w.client c).copy command x y ≡ (if is_swap command && clips_in s w c x y then (w.back x y).colour else w.front x y)
  shown (Some Swap) x y = rw (current.copy x y) refl
  shown _ x y = refl

  drawn : (x y : ℕ) (b : Bool) → clips_in s w c x y ≡ b → (after_entry s w (Run c i)).back x y ≡ back_run s w c i x y
  drawn x y true inside = ran_back s w c i x y good sound legal inside ∙ rw inside refl
  drawn x y false outside = back_left w (w.client c) (command_at s c i) x y (current.copy x y ∙ outside) ∙ rw outside refl

  ran_planes : IsPlaneStep s w (Run c i)
  ran_planes = record { front = shown (command_at s c i); back = λ x y. drawn x y (clips_in s w c x y) refl }

pub plane_step_at : (s : Scene) (w : World) (e : Entry) → IsWellFormed s → Sound s w → LegalEntry s w e → IsPlaneStep s w e
plane_step_at s w (Run c i) good sound legal = ran_planes s w c i good sound legal
plane_step_at s w (Change i) good sound legal = record { front = λ x y. refl; back = λ x y. refl }
plane_step_at s w (Gone c) good sound legal = record { front = λ x y. refl; back = λ x y. refl }
plane_step_at s w _ good sound legal = record { front = λ x y. refl; back = λ x y. refl }

-- an entry that is legal after a hold-run makes of the planes what each client's own state and image, the current clips and the new stack say
pub plane_step : (s : Scene) (journal : List Entry) (e : Entry) → InRange s → HoldRun s journal → LegalEntry s (after s journal) e → IsPlaneStep s (after s journal) e
plane_step s journal e good run legal = plane_step_at s (after s journal) e (well_formed s good) (sound_after s journal (well_formed s good) run) legal
