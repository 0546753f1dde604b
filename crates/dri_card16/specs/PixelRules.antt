-- A card's pixel rule, and what a script means alone on such a card.
use Rattle.std.specs.Prelude.{◌+◌, ◌-◌, ◌≡◌, None, Option, Some, ℕ, ℤ, pred, slice_get, suc, zero}
use Rattle.dri_base.specs.declared.shape.Triangle.{Triangle}
use Rattle.dri_base.specs.Fragments.{Rules, fragment, rules_of}
use Rattle.dri_base.specs.States.{state_at}
use Rattle.dri_base.specs.Texels.{Image}
use Rattle.dri_base.specs.declared.colour.Pixel.{Pixel}
use Rattle.dri_base.specs.declared.colour.Rgb.{Rgb}
use Rattle.dri_base.specs.declared.command.Command.TheVariants as Command_is
use Rattle.dri_base.specs.declared.command.Command.{Command}
use Rattle.dri_base.specs.declared.scene.ClientScript.{ClientScript}
use Rattle.dri_core.specs.Solo.{blank, frame, image_at}

-- a card, by what it keeps of a colour that is painted, and by the pair that a triangle leaves over the pair under it
pub record PixelRule : Type 0 where
  pub kept : Rgb → Rgb
  pub triangle : Rules → Option Image → Triangle → ℤ → ℤ → Pixel → Pixel

-- what is kept of a kept colour is all of it, and a triangle leaves a kept colour on a kept one
pub record KeepsForGood (rule : PixelRule) : Type 0 where
  pub colour : (colour : Rgb) → rule.kept (rule.kept colour) ≡ rule.kept colour
  pub pair : (r : Rules) (image : Option Image) (t : Triangle) (x y : ℤ) (under : Pixel) → rule.kept under.colour ≡ under.colour →
      rule.kept (rule.triangle r image t x y under).colour ≡ (rule.triangle r image t x y under).colour

-- the card that keeps each colour as it is, and fills triangles
abbrev pub plain_rule : PixelRule
plain_rule = record { kept = λ colour. colour; triangle = fragment }

-- what is kept of a pair: its depth is as it is
abbrev pub kept_pair : (Rgb → Rgb) → Pixel → Pixel
kept_pair kept pair = record { colour = kept pair.colour; depth = pair.depth }

-- the pair that a command leaves at the window's pixel (x, y), over the pair under it
abbrev pub drawn_with : PixelRule → Rules → Option Image → Option Command → ℤ → ℤ → Pixel → Pixel
drawn_with rule r image (Some (Command_is.Clear colour depth)) x y under = kept_pair rule.kept (record { colour = colour; depth = depth })
drawn_with rule r image (Some (Command_is.Triangle t)) x y under = rule.triangle r image t x y under
drawn_with rule r image _ x y under = under

-- the pair that command i leaves, with the script's own state and image at that place
abbrev pub drawn_at_with : PixelRule → ClientScript → ℕ → ℤ → ℤ → Pixel → Pixel
drawn_at_with rule p i x y under = drawn_with rule (rules_of (state_at p.commands i)) (image_at p i) (slice_get p.commands (pred i)) x y under

-- the pair after the clear at place first and the n commands behind it
abbrev pub solo_with : PixelRule → ClientScript → ℕ → ℕ → ℤ → ℤ → Pixel
solo_with rule p first zero x y = drawn_at_with rule p first x y blank
solo_with rule p first (suc n) x y = drawn_at_with rule p (first + suc n) x y (solo_with rule p first n x y)

-- the colour at the window's pixel (x, y) of the frame between two places, where there is one
abbrev pub solo_between_with : PixelRule → ClientScript → Option (ℕ × ℕ) → ℤ → ℤ → Option Rgb
solo_between_with rule p None x y = None
solo_between_with rule p (Some f) x y = Some (solo_with rule p f.0 (f.1 - suc f.0) x y).colour

-- frame k drawn alone: the colour at the window's pixel (x, y)
abbrev pub solo_frame_with : PixelRule → ClientScript → ℕ → ℤ → ℤ → Option Rgb
solo_frame_with rule p k x y = solo_between_with rule p (frame p.commands k) x y
