-- One more.
use Rattle.std.proofs.Common.{rules}
use Rattle.std.proofs.lemmas.List.Elements.{All-more}
use Rattle.dri_scene.specs.Stored.{IsStoredCommand}
use Rattle.dri_scene.specs.Texts.{command_words}
use Rattle.dri_words.specs.Lines.{line_bytes}
use Rattle.dri_scene.proofs.Joins.{next_piece}
use Rattle.dri_scene.proofs.print.push_commands.Goals as goal

pub loop-command-preserved : goal.loop-command-preserved
loop-command-preserved c =
    let xs = c.as_slice-command-items.result.now in
    let i = c.loop-command.command-index in
    (next_piece (λ c. line_bytes (command_words c)) xs i _ (search rules) c.loop-command.invariant.0 c.in_ok-push_command.ensures.text, All-more IsStoredCommand xs i _ (search rules) c.loop-command.invariant.1 c.in_ok-push_command.ensures.stored)
