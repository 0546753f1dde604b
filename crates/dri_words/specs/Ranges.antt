-- Numbers of a line, kept where they are in their range.
use Rattle.std.specs.Prelude.{ℕ, ℤ, pos, negsuc, int_le, nat_le, ◌&&◌, if◌then◌else◌, Some, None}
use Rattle.std.specs.declared.option.Option.{Option}

-- a number from low to high
abbrev pub within : ℕ → ℕ → ℤ → Option ℕ
within low high (pos n) = if nat_le low n && nat_le n high then Some n else None
within low high (negsuc n) = None

-- a number of either sign, from low to high
abbrev pub signed_within : ℤ → ℤ → ℤ → Option ℤ
signed_within low high z = if int_le low z && int_le z high then Some z else None
