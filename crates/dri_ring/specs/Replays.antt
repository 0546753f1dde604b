-- What a replay through a ring answers.
use Rattle.std.specs.Prelude.{◌≡◌, ℕ, List, Result, Ok, Err}
use Rattle.dri_base.specs.Planes.{plane}
use Rattle.dri_base.specs.declared.journal.Entry.{Entry}
use Rattle.dri_base.specs.declared.scene.Scene.{Scene}
use Rattle.dri_core.specs.FirstBad.{IsFirstBad}
use Rattle.dri_core.specs.Runs.{HoldRun, after}
use Rattle.dri_replay.specs.declared.fault.ReplayFault.{ReplayFault}
use Rattle.dri_replay.specs.declared.fault.ReplayFault.TheVariants as faults
use Rattle.dri_ring.specs.Counts.{ring_counts}
use Rattle.dri_ring.specs.declared.ringed.Ringed.{Ringed}

-- what is left of a hold-run, in a ring in which so many may wait: the screen's front after it, and what is counted
pub record IsRinged (s : Scene) (journal : List Entry) (room : ℕ) (ringed : Ringed) : Type 0 where
  pub run : HoldRun s journal
  pub width : ringed.picture.width ≡ s.width
  pub height : ringed.picture.height ≡ s.height
  pub pixels : ringed.picture.pixels ≡ plane s.width s.height (after s journal).front
  pub puts : ringed.puts ≡ (ring_counts s room journal).puts
  pub idles : ringed.idles ≡ (ring_counts s room journal).idles
  pub most : ringed.most ≡ (ring_counts s room journal).most

-- a replay draws a hold-run, or names the first entry that isn't legal, unless memory ran out
abbrev pub Replays : Scene → List Entry → ℕ → Result Ringed ReplayFault → Type 0
Replays s journal room (Ok ringed) = IsRinged s journal room ringed
Replays s journal room (Err (faults.NotARun entry)) = IsFirstBad s journal entry
Replays s journal room (Err faults.OutOfMemory) = Unit {0}
