-- How much texture memory there can be.
use Rattle.std.specs.Prelude.{ℕ}

-- the most bytes of texture memory: 64 regions of 65,536 bytes
abbrev pub most_memory : ℕ
most_memory = 4194304
