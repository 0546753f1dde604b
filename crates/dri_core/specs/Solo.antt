-- What a script means alone: no screen, window, lock, register, age or clip occurs here.
use Rattle.std.specs.Prelude.{◌≡◌, ◌<◌, Bool, true, false, ℕ, zero, suc, ◌+◌, ◌-◌, List, [], ◌∷◌, slice_get, pred, ◌==◌, if◌then◌else◌, Option, Some, None, ℤ}
use Rattle.dri_base.specs.declared.colour.Rgb.{Rgb}
use Rattle.dri_base.specs.declared.command.Command.{Command}
use Rattle.dri_base.specs.declared.command.Command.TheVariants.{Clear, Triangle, Swap}
use Rattle.dri_base.specs.declared.scene.ClientScript.{ClientScript}
use Rattle.dri_base.specs.States.{state_at}
use Rattle.dri_base.specs.Texels.{Image, own_image}
use Rattle.dri_base.specs.declared.colour.Pixel.{Pixel}
use Rattle.dri_base.specs.Fragments.{Rules, rules_of, fragment}
use Rattle.dri_model.specs.Counting.{how_many}

-- black, as deep as can be: what stands under a frame's clear
abbrev pub blank : Pixel
blank = record { colour = record { r = 0; g = 0; b = 0 }; depth = 65535 }

-- the pair that a command leaves at the window's pixel (x, y), over the pair under it
abbrev pub drawn_by : Rules → Option Image → Option Command → ℤ → ℤ → Pixel → Pixel
drawn_by r image (Some (Clear colour depth)) x y under = record { colour = colour; depth = depth }
drawn_by r image (Some (Triangle t)) x y under = fragment r image t x y under
drawn_by r image _ x y under = under

-- the image that the script's state binds at place i
abbrev pub image_at : ClientScript → ℕ → Option Image
image_at p i = own_image p.textures (state_at p.commands i).bound

-- the pair that command i leaves, with the script's own state and image at that place
abbrev pub drawn_at : ClientScript → ℕ → ℤ → ℤ → Pixel → Pixel
drawn_at p i x y under = drawn_by (rules_of (state_at p.commands i)) (image_at p i) (slice_get p.commands (pred i)) x y under

-- the pair after the clear at place first and the n commands behind it
abbrev pub solo : ClientScript → ℕ → ℕ → ℤ → ℤ → Pixel
solo p first zero x y = drawn_at p first x y blank
solo p first (suc n) x y = drawn_at p (first + suc n) x y (solo p first n x y)

-- the command is a clear
abbrev pub is_clear : Option Command → Bool
is_clear (Some (Clear colour depth)) = true
is_clear _ = false

-- the command is a swap
abbrev pub is_swap : Option Command → Bool
is_swap (Some Swap) = true
is_swap _ = false

-- how many swaps stand before a place
abbrev pub swaps_before : List Command → ℕ → ℕ
swaps_before cs place = how_many (λ j. is_swap (slice_get cs j)) (pred place)

-- frame k ends with the script's swap k, at place last; its last clear stands at place first, with neither clear nor swap between
pub record IsFrame (cs : List Command) (k first last : ℕ) : Type 0 where
  pub counted : 0 < first
  pub order : first < last
  pub clear : is_clear (slice_get cs (pred first)) ≡ true
  pub swap : is_swap (slice_get cs (pred last)) ≡ true
  pub number : k ≡ swaps_before cs last + 1
  pub inner : (j : ℕ) → first < j → j < last → (is_clear (slice_get cs (pred j)) ≡ false) × (is_swap (slice_get cs (pred j)) ≡ false)

-- the places of a frame's last clear and of its swap, where it has a clear
abbrev pub with_swap : Option ℕ → ℕ → Option (ℕ × ℕ)
with_swap None last = None
with_swap (Some first) last = Some (first, last)

-- the same of the frame that is k swaps ahead, where the commands from a place on are given, and the last clear before them since the last swap
abbrev pub frame_from : List Command → ℕ → Option ℕ → ℕ → Option (ℕ × ℕ)
frame_from [] place clear k = None
frame_from (Swap ∷ cs) place clear k = if k == 1 then with_swap clear place else frame_from cs (place + 1) None (pred k)
frame_from (Clear colour depth ∷ cs) place clear k = frame_from cs (place + 1) (Some place) k
frame_from (_ ∷ cs) place clear k = frame_from cs (place + 1) clear k

-- the places, counted from 1, of the last clear and of the swap of frame k, where the frame exists and begins with a clear
abbrev pub frame : List Command → ℕ → Option (ℕ × ℕ)
frame cs k = frame_from cs 1 None k

-- the colour at the window's pixel (x, y) of the frame between two places, where there is one
abbrev pub solo_between : ClientScript → Option (ℕ × ℕ) → ℤ → ℤ → Option Rgb
solo_between p None x y = None
solo_between p (Some f) x y = Some (solo p f.0 (f.1 - suc f.0) x y).colour

-- frame k drawn alone: the colour at the window's pixel (x, y)
abbrev pub solo_frame : ClientScript → ℕ → ℤ → ℤ → Option Rgb
solo_frame p k x y = solo_between p (frame p.commands k) x y
