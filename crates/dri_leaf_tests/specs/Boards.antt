-- The board of the tests.
use Rattle.std.specs.Prelude.{Contains}
use Rattle.dri_base.specs.Ranges.{window_numbers}
use Rattle.dri_clips.specs.Boards.{Screen}

-- windows 1 and 2 are on the board
pub record HasBoth (v : Screen) : Type 0 where
  pub first : Contains (window_numbers v.stack) 1
  pub second : Contains (window_numbers v.stack) 2
