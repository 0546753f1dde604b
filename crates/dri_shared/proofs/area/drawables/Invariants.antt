-- The drawables so far.
use Rattle.std.proofs.Common.{◌≡◌, map}
use Rattle.std.specs.List.{range_with_len}
use Rattle.dri_clips.specs.Boards.{stamps_of}
use Rattle.dri_shared.specs.Areas.{drawable_of}
use Rattle.dri_shared.proofs.area.drawables.Given as goal

abbrev pub invariant-loop-number : goal.invariant-loop-number
invariant-loop-number l = l.list.items ≡ map (drawable_of l.board.stack (stamps_of l.board)) (range_with_len 0 l.number)
