-- The clients so far have ended or are dead.
use Rattle.std.proofs.Common.{◌≡◌, drop}
use Rattle.std.specs.List.{list_all}
use Rattle.dri_client.specs.Parts.{PartState}
use Rattle.dri_core.specs.Phases.{is_done}
use Rattle.dri_journal.proofs.replay.are_done.Given as goal

abbrev pub invariant-loop-part : goal.invariant-loop-part
invariant-loop-part l = list_all (λ (p : PartState). is_done p.phase) (drop l.part-index l.parts) ≡ list_all (λ (p : PartState). is_done p.phase) l.parts
