use Rattle.std.proofs.Common.{◌≡◌, ◌≤◌, ℕ, length, Some}
use Rattle.std.specs.Prelude.{slice_get, vec_capacity}
use Rattle.std.specs.Arc.{arc_value}
use Rattle.dri_base.specs.Ranges.{client_numbers}
use Rattle.dri_driver.specs.Clients.{ClientState}
use Rattle.dri_driver.specs.Opening.{IsOpening}
use Rattle.dri_driver.proofs.opening.clients_of.Given as goal

abbrev pub invariant-loop-i : goal.invariant-loop-i
invariant-loop-i l = record {
  last : l.i-end ≡ length (arc_value l.fn.scene).clients;
  room : length (arc_value l.fn.scene).clients ≤ vec_capacity l.clients;
  number : length l.clients.items ≡ l.i;
  each : (j n : ℕ) (k : ClientState) → slice_get (client_numbers (arc_value l.fn.scene).clients) j ≡ Some n → slice_get l.clients.items j ≡ Some k → IsOpening (arc_value l.fn.scene) n k;
}
