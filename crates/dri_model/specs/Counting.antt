-- Counting the numbers that have a property.
use Rattle.std.specs.Prelude.{ℕ, zero, suc, ◌+◌, Bool, true, false, ◌&&◌, ◌||◌, if◌then◌else◌}

-- how many numbers below n have the property
abbrev pub how_many : (ℕ → Bool) → ℕ → ℕ
how_many p zero = 0
how_many p (suc n) = if p n then suc (how_many p n) else how_many p n

-- some of the n numbers from first on has the property
abbrev pub any_from : (ℕ → Bool) → ℕ → ℕ → Bool
any_from p first zero = false
any_from p first (suc n) = p (first + n) || any_from p first n

-- all numbers below n have the property
abbrev pub all_below : (ℕ → Bool) → ℕ → Bool
all_below p zero = true
all_below p (suc n) = p n && all_below p n

-- the least number below n with the property, or n where there is none
abbrev pub least : (ℕ → Bool) → ℕ → ℕ
least p zero = 0
least p (suc n) = if any_from p 0 n then least p n else (if p n then n else suc n)
