use Rattle.std.proofs.Common.{◌∙◌}
use Rattle.dri_clips.proofs.Carrying.{corner_placed}
use Rattle.dri_model.specs.Stacks.{origin}
use Rattle.dri_journal.proofs.replay.Replay.origin.Goals as goal

pub origin-requires : goal.origin-requires
origin-requires c = rw c.board-board.ensures.windows c.script-script.ensures.window

pub returns-clause-corner : goal.returns-clause-corner
returns-clause-corner c = c.origin.ensures ∙ (λ i. origin (c.board-board.ensures.windows i) (c.script-script.ensures.same i).window)

pub returns-clause-x : goal.returns-clause-x
returns-clause-x c = (corner_placed c.board-board.result.now.stack c.script-script.result.now.window c.origin.result.x c.origin.result.y c.arranged.ensures.stack.each c.origin.ensures).0

pub returns-clause-y : goal.returns-clause-y
returns-clause-y c = (corner_placed c.board-board.result.now.stack c.script-script.result.now.window c.origin.result.x c.origin.result.y c.arranged.ensures.stack.each c.origin.ensures).1
