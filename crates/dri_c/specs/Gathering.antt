-- A sink that gathers what is written.
use Rattle.std.specs.Prelude.{ℕ, List}

-- the bytes that it took, and how many writes failed
pub record Gathering : Type 0 where
  pub held : List ℕ
  pub faults : ℕ
