-- Each printed word is a word, and is read again.
use Rattle.std.proofs.Common.{◌≡◌, ℕ, zero, suc, ◌+◌, ◌*◌, ◌/◌, ◌%◌, ◌<◌, ◌≤◌, Bool, true, false, List, [], ◌∷◌, ◌++◌, length, Some, ℤ, pos, negsuc, neg_ℤ, ◌≤ℤ◌, refl, ap, nat_lt, arith}
use Rattle.std.specs.List.{All, list_all, flat_map}
use Rattle.std.proofs.lemmas.List.Elements.{All-head, All-tail}
use Rattle.std.specs.Fmt.{signed_decimal}
use lib.Dec.{T}
use Rattle.std.proofs.lemmas.Bool.{leb-true}
use Rattle.std.proofs.lemmas.Bool.Decides.{nat_tests}
use Rattle.dri_base.specs.declared.colour.Rgb.{Rgb}
use Rattle.dri_base.specs.declared.colour.Rgba.{Rgba}
use Rattle.dri_words.specs.Words.{nibble_of, byte_of, colour_of, colour_alpha_of}
use Rattle.dri_words.specs.Ranges.{signed_within}
use Rattle.dri_words.specs.Words.{signed_of}
use Rattle.dri_words.proofs.Written.{unsigned_read, negative_read}
use Rattle.dri_scene.specs.Forms.{is_hex_digit}
use Rattle.dri_scene.specs.Readings.{digit_value, image_bytes}
use Rattle.dri_scene.specs.Texts.{digit, hex, colour_word, colour_alpha_word}
use Rattle.dri_words.proofs.Splitting.{is_word}
use Rattle.dri_words.proofs.PrintedNumbers.{decimal_word, word_append}

-- a number of either sign, within bounds
pub record IsBetween (low high : ℕ) (z : ℤ) : Type 0 where
  pub above : neg_ℤ (pos low) ≤ℤ z
  pub below : z ≤ℤ pos high

holds_true : (b : Bool) → T b → b ≡ true
holds_true true t = refl
holds_true false t = absurd t

-- how far below 0 a number may be
negative_below : (low m : ℕ) → neg_ℤ (pos low) ≤ℤ negsuc m → suc m ≤ low
negative_below zero m above = absurd above.le
negative_below (suc low) m above = let less = leb-true m low (holds_true _ above.le) in omega (arith, less)

positive_below : (high n : ℕ) → pos n ≤ℤ pos high → n ≤ high
positive_below high n below = leb-true n high (holds_true _ below.le)

pub signed_word : (z : ℤ) (low high : ℕ) → low < 100000 → high < 100000 → IsBetween low high z → is_word (signed_decimal z) ≡ true
signed_word (pos n) low high small_low small_high is = let below = positive_below high n is.below in decimal_word n (omega (arith, below, small_high))
signed_word (negsuc m) low high small_low small_high is = let below = negative_below low m is.above in decimal_word (suc m) (omega (arith, below, small_low))

pub signed_back : (z : ℤ) (low high : ℕ) → low < 100000 → high < 100000 → IsBetween low high z → signed_of (signed_decimal z) ≡ Some z
signed_back (pos n) low high small_low small_high is = let below = positive_below high n is.below in unsigned_read n (omega (arith, below, small_high))
signed_back (negsuc m) low high small_low small_high is = let below = negative_below low m is.above in negative_read m (omega (arith, below, small_low))

pub signed_kept : (z : ℤ) (low high : ℕ) → IsBetween low high z → signed_within (neg_ℤ (pos low)) (pos high) z ≡ Some z
signed_kept z low high is = rw (holds_true _ is.above.le, holds_true _ is.below.le) refl

-- a digit is read again
digit_read : (n : ℕ) → n < 16 → nibble_of (digit n) ≡ Some n
digit_read n small = grind (arith, nat_tests)

digit_word : (n : ℕ) → nat_lt 32 (digit n) ≡ true
digit_word n = grind (arith, nat_tests)

digit_hex : (n : ℕ) → n < 16 → is_hex_digit (digit n) ≡ true
digit_hex n small = grind (arith, nat_tests)

digit_back : (n : ℕ) → n < 16 → digit_value (digit n) ≡ n
digit_back n small = grind (arith, nat_tests)

-- a byte is read again
pub byte_read : (n : ℕ) → n < 256 → byte_of (digit (n / 16)) (digit (n % 16)) ≡ Some n
byte_read n small = rw (digit_read (n / 16) (omega arith), digit_read (n % 16) (omega arith)) (ap Some (omega arith))

-- a colour is read again
pub colour_read : (c : Rgb) → c.r < 256 → c.g < 256 → c.b < 256 → colour_of (colour_word c) ≡ Some c
colour_read c red green blue = rw (byte_read c.r red, byte_read c.g green, byte_read c.b blue) refl

pub colour_alpha_read : (c : Rgba) → c.r < 256 → c.g < 256 → c.b < 256 → c.a < 256 → colour_alpha_of (colour_alpha_word c) ≡ Some c
colour_alpha_read c red green blue alpha = rw (byte_read c.r red, byte_read c.g green, byte_read c.b blue, byte_read c.a alpha) refl

hex_word : (n : ℕ) → is_word (hex n) ≡ true
hex_word n = rw (digit_word (n / 16), digit_word (n % 16)) refl

pub colour_is_word : (c : Rgb) → is_word (colour_word c) ≡ true
colour_is_word c = word_append (hex c.r) (hex c.g ++ hex c.b) (hex_word c.r) (word_append (hex c.g) (hex c.b) (hex_word c.g) (hex_word c.b))

pub colour_alpha_is_word : (c : Rgba) → is_word (colour_alpha_word c) ≡ true
colour_alpha_is_word c = word_append (hex c.r) (hex c.g ++ (hex c.b ++ hex c.a)) (hex_word c.r) (word_append (hex c.g) (hex c.b ++ hex c.a) (hex_word c.g) (word_append (hex c.b) (hex c.a) (hex_word c.b) (hex_word c.a)))

pub image_is_word : (bytes : List ℕ) → is_word (flat_map hex bytes) ≡ true
image_is_word [] = refl
image_is_word (b ∷ bs) = word_append (hex b) (flat_map hex bs) (hex_word b) (image_is_word bs)

-- an image is read again
pub image_back : (bytes : List ℕ) → All (λ b. b < 256) bytes → image_bytes (flat_map hex bytes) ≡ bytes
image_back [] all = refl
image_back (b ∷ bs) all =
    let small = All-head (λ x. x < 256) b bs all in
    let here : 16 * digit_value (digit (b / 16)) + digit_value (digit (b % 16)) ≡ b = rw (digit_back (b / 16) (omega (arith, small)), digit_back (b % 16) (omega arith)) (omega arith) in
    rw here (ap (λ t. b ∷ t) (image_back bs (All-tail (λ x. x < 256) b bs all)))

pub image_digits : (bytes : List ℕ) → All (λ b. b < 256) bytes → list_all is_hex_digit (flat_map hex bytes) ≡ true
image_digits [] all = refl
image_digits (b ∷ bs) all =
    let small = All-head (λ x. x < 256) b bs all in
    rw (digit_hex (b / 16) (omega (arith, small)), digit_hex (b % 16) (omega arith)) (image_digits bs (All-tail (λ x. x < 256) b bs all))

pub image_size : (bytes : List ℕ) → length (flat_map hex bytes) ≡ 2 * length bytes
image_size [] = refl
image_size (b ∷ bs) = let more = image_size bs in omega (arith, more)
