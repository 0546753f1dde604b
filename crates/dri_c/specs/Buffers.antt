-- What a caller's buffer gains.
use Rattle.std.specs.Prelude.{ℕ, List, Bool, length, drop, ◌++◌, nat_le, if◌then◌else◌}

-- a buffer has room for these bytes
abbrev pub has_room : List ℕ → List ℕ → Bool
has_room bytes buffer = nat_le (length bytes) (length buffer)

-- a buffer with these bytes at its begin, where it has room for them; else it stays
abbrev pub filled : List ℕ → List ℕ → List ℕ
filled bytes buffer = if has_room bytes buffer then bytes ++ drop (length bytes) buffer else buffer

-- how many bytes a buffer gains then
abbrev pub gained : List ℕ → List ℕ → ℕ
gained bytes buffer = if has_room bytes buffer then length bytes else 0
