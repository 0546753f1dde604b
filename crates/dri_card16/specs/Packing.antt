-- Colours in sixteen bits: red has the five highest, green the six in the middle, blue the five lowest.
use Rattle.std.specs.Prelude.{◌≡◌, ◌<◌, ◌+◌, ◌*◌, ◌/◌, ◌%◌, ℕ}
use Rattle.dri_base.specs.Texels.{sixteen_bits}
use Rattle.dri_base.specs.declared.colour.Rgb.{Rgb}

-- the word of a colour: bits 7 to 3 of red, bits 7 to 2 of green, and bits 7 to 3 of blue
abbrev pub pack : Rgb → ℕ
pack colour = ((colour.r / 8) % 32) * 2048 + ((colour.g / 4) % 64) * 32 + (colour.b / 8) % 32

-- what is kept of a colour: its word, widened as a texel of sixteen bits is
abbrev pub kept : Rgb → Rgb
kept colour = sixteen_bits (pack colour)

-- law: the word of a colour of three bytes is its channels, each without its lowest bits
abbrev pub PackedByShifts : Type 0
PackedByShifts = (colour : Rgb) → colour.r < 256 → colour.g < 256 → colour.b < 256 → pack colour ≡ (colour.r / 8) * 2048 + (colour.g / 4) * 32 + colour.b / 8

-- law: a word, widened and packed again, is as it was
abbrev pub WordsComeBack : Type 0
WordsComeBack = (word : ℕ) → word < 65536 → pack (sixteen_bits word) ≡ word

-- law: what is kept of a kept colour is all of it
abbrev pub KeptIsKept : Type 0
KeptIsKept = (colour : Rgb) → kept (kept colour) ≡ kept colour
