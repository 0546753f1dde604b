-- The lines so far.
use Rattle.std.proofs.Common.{All, take}
use Rattle.std.specs.List.{flat_map}
use Rattle.dri_scene.specs.Texts.{Adds, command_words}
use Rattle.dri_words.specs.Lines.{line_bytes}
use Rattle.dri_scene.specs.Stored.{IsStoredCommand}
use Rattle.dri_scene.proofs.print.push_commands.Given as goal

abbrev pub invariant-loop-command : goal.invariant-loop-command
invariant-loop-command l = (Adds l.fn.text.items (flat_map (λ x. line_bytes (command_words x)) (take l.command-index l.command-items)) l.text.items) × All IsStoredCommand (take l.command-index l.command-items)
