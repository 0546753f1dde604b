use Rattle.std.proofs.Common.{◌≡◌, ◌<◌, ℕ, drop, get_or}
use Rattle.dri_base.specs.Ranges.{client_numbers}
use Rattle.dri_base.specs.Scenes.{script_in}
use Rattle.dri_client.proofs.script.place_of.Given as goal

abbrev pub invariant-loop-place : goal.invariant-loop-place
invariant-loop-place l = record {
  same : script_in (drop l.place l.clients) l.number ≡ script_in l.clients l.number;
  before : (k : ℕ) → k < l.place → get_or (client_numbers l.clients) k l.number ≡ l.number → ⊥;
}
