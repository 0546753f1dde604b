-- A buffer that is too full.
use Rattle.std.specs.Prelude.{ℕ, ◌≡◌, ◌<◌, ◌+◌, List, length}
use Rattle.dri_cmdbuf.specs.declared.buffer.BufferFull.{BufferFull}

-- a push that needs so many words is refused: fewer of the 4,096 are free
pub record IsRefused (words : List ℕ) (need : ℕ) (full : BufferFull) : Type 0 where
  pub needs : full.need ≡ need
  pub free : full.have + length words ≡ 4096
  pub fewer : full.have < full.need
