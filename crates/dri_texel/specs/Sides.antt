-- A side of an image, and columns or rows that are brought within it.
use Rattle.std.specs.Prelude.{ℕ, ◌≤◌, ◌<◌, ◌+◌, ◌*◌}
use Rattle.dri_base.specs.declared.state.Wrap.{Wrap}
use Rattle.dri_texel.specs.declared.side.Side.TheInside.{Inside}

-- how long it is, and what is beyond it
pub record Wrapping : Type 0 where
  pub wrap : Wrap
  pub side : ℕ

abbrev pub wrapping : Inside → Wrapping
wrapping s = record { wrap = s.wrap; side = s.side }

-- the side is 1 to 256, and the reciprocal is 2^32 by it, rounded up
pub record IsSide (s : Inside) : Type 0 where
  pub some : 1 ≤ s.side
  pub most : s.side ≤ 256
  pub low : 4294967296 ≤ s.reciprocal * s.side
  pub high : s.reciprocal * s.side < 4294967296 + s.side
