-- A number of the scene's is on the board.
use Rattle.std.proofs.Common.{◌∙◌, sym}
use Rattle.dri_shared.proofs.Shown.{number_there}
use Rattle.dri_shared.proofs.area.drawable.Goals as goal

pub stamp-requires : goal.stamp-requires
stamp-requires c = number_there c.args.windows.now c.args.board.now.stack c.args.number c.requires (sym c.has_number.ensures ∙ c.if-has_number.true)

pub mapped-requires : goal.mapped-requires
mapped-requires c = number_there c.args.windows.now c.args.board.now.stack c.args.number c.requires (sym c.has_number.ensures ∙ c.if-has_number.true)
