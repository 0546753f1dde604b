-- There is a part for each of the scripts so far.
use Rattle.std.proofs.Common.{◌≡◌, ℕ, length, Some}
use Rattle.std.specs.Prelude.{slice_get}
use Rattle.dri_base.specs.declared.scene.ClientScript.{ClientScript}
use Rattle.dri_client.specs.Kept.{IsKept}
use Rattle.dri_client.specs.Parts.{Agrees, PartState}
use Rattle.dri_core.specs.Privates.{opening_part}
use Rattle.dri_journal.proofs.replay.parts_of.Given as goal

abbrev pub invariant-loop-script : goal.invariant-loop-script
invariant-loop-script l = record {
  room : length l.parts.items ≡ l.script-index;
  each : (i : ℕ) (p : ClientScript) (part : PartState) → slice_get l.scripts i ≡ Some p → slice_get l.parts.items i ≡ Some part → Agrees part (opening_part p.commands) × ((regions : ℕ) → IsKept p regions part) × (part.placed.region_size ≡ l.region_size);
}
