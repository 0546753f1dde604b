use Rattle.std.proofs.Common.{◌∙◌}
use Rattle.dri_clips.specs.Boards.{shows}
use Rattle.dri_journal.proofs.replay.Replay.clips.Goals as goal

pub clips-requires : goal.clips-requires
clips-requires c = rw c.board.ensures.windows c.script-script.ensures.window

pub returns : goal.returns
returns c = λ x y. let b = c.board.ensures in c.clips.ensures x y ∙ (λ i. shows (b.width i) (b.height i) (b.windows i) (c.script-script.ensures.same i).window x y)
