-- Words of sixteen bits, and what they keep of a colour.
use Rattle.std.proofs.Common.{◌≡◌, ◌<◌, ◌/◌, ◌%◌, ℕ, arith, ap}
use Rattle.dri_base.specs.Texels.{five_bits, six_bits, sixteen_bits}
use Rattle.dri_base.specs.declared.colour.Rgb.{Rgb}
use Rattle.dri_card16.specs.Packing.{KeptIsKept, PackedByShifts, WordsComeBack, pack}

pub packed_by_shifts : PackedByShifts
packed_by_shifts colour r g b = omega (arith, r, g, b)

five_back : (v : ℕ) → v < 32 → (five_bits v / 8) % 32 ≡ v
five_back v l = omega (arith, l)

six_back : (v : ℕ) → v < 64 → (six_bits v / 4) % 64 ≡ v
six_back v l = omega (arith, l)

pub words_come_back : WordsComeBack
words_come_back word l = omega (arith, l, five_back (word / 2048) (omega (arith, l)), six_back ((word / 32) % 64) (omega arith), five_back (word % 32) (omega arith))

packed_below : (colour : Rgb) → pack colour < 65536
packed_below colour = omega arith

pub kept_is_kept : KeptIsKept
kept_is_kept colour = ap sixteen_bits (words_come_back (pack colour) (packed_below colour))
