-- Sources and sinks in memory.
use Rattle.std.specs.Prelude.{◌≡◌, ℕ, ◌+◌, ◌-◌, ◌^◌, ◌≤◌, min, List, [], length, Result, Ok, Err}

-- a source in memory: what is left, the largest piece, which calls fail, how many calls were made, how many failed
pub record Feed : Type 0 where
  pub left : List ℕ
  pub piece : ℕ
  pub fails : List ℕ
  pub calls : ℕ
  pub faults : ℕ

-- a source in memory that never fails: what is left, and the largest piece
pub record Supply : Type 0 where
  pub left : List ℕ
  pub piece : ℕ

-- one more, up to the last value of a counter
abbrev pub one_more : ℕ → ℕ
one_more n = min (n + 1) (2 ^ 64 - 1)

-- a sink in memory: what it holds, how many bytes it has room for in all, the largest piece, and the counts
pub record Store : Type 0 where
  pub held : List ℕ
  pub capacity : ℕ
  pub piece : ℕ
  pub fails : List ℕ
  pub calls : ℕ
  pub faults : ℕ

-- the count rises by one exactly where the call fails, and stays else
abbrev pub Counts : {T E : Type 0} → ℕ → ℕ → Result T E → Type 0
Counts before now (Ok n) = now ≡ before
Counts before now (Err e) = now ≡ one_more before

-- no call fails by its number, and there is room for so many bytes more
abbrev pub HasRoom : Store → ℕ → Type 0
HasRoom s n = (s.fails ≡ []) × (length s.held + n ≤ s.capacity)
