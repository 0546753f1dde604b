-- The lines so far.
use Rattle.std.proofs.Common.{All, take}
use Rattle.std.specs.List.{flat_map}
use Rattle.dri_scene.specs.Texts.{Adds, client_lines}
use Rattle.dri_words.specs.Lines.{line_bytes}
use Rattle.dri_scene.specs.Stored.{IsStoredClient}
use Rattle.dri_scene.proofs.print.push_clients.Given as goal

abbrev pub invariant-loop-client : goal.invariant-loop-client
invariant-loop-client l = (Adds l.fn.text.items (flat_map (λ x. flat_map line_bytes (client_lines x)) (take l.client-index l.client-items)) l.text.items) × All IsStoredClient (take l.client-index l.client-items)
