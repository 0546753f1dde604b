-- What each deed of a replay makes of the planes of a card that follows it.
use Rattle.std.specs.Prelude.{◌<◌, ℕ, Bool, true, false, if◌then◌else◌, length, Option, Some, None, IfSome, All, AllPairs, Contains}
use Rattle.dri_base.specs.Fragments.{fragment, rules_of}
use Rattle.dri_base.specs.Ranges.{TriangleInRange, client_numbers}
use Rattle.dri_base.specs.Scenes.{textures_of}
use Rattle.dri_base.specs.Texels.{own_image}
use Rattle.dri_base.specs.declared.colour.Pixel.{Pixel}
use Rattle.dri_base.specs.declared.colour.Rgb.{Rgb}
use Rattle.dri_base.specs.declared.command.Command.{Command}
use Rattle.dri_base.specs.declared.command.Command.TheVariants.{Clear, Triangle, Swap}
use Rattle.dri_base.specs.declared.state.State.{State}
use Rattle.dri_card.specs.Drawing.{carried_by}
use Rattle.dri_clips.specs.Paints.{IsOnScreen, StaysOnScreen, filled}
use Rattle.dri_clips.specs.declared.touched.Carry.{Carry}
use Rattle.dri_clips.specs.declared.touched.Touched.{Touched}
use Rattle.dri_core.specs.Frames.{across, down}
use Rattle.dri_core.specs.Worlds.{clips_in}
use Rattle.dri_journal.specs.Replays.{ReplayState, world_of}
use Rattle.dri_journal.specs.declared.deed.Deed.{Deed}
use Rattle.dri_journal.specs.declared.deed.Deed.TheVariants as Deed_is
use Rattle.dri_base.specs.Rectangles.{AreApart}

-- the command is a clear, a triangle or a swap
abbrev pub uses_clips : Option Command → Bool
uses_clips (Some (Clear colour depth)) = true
uses_clips (Some (Triangle t)) = true
uses_clips (Some Swap) = true
uses_clips _ = false

-- client c's clips after the entries
abbrev pub clips_now : ReplayState → ℕ → ℕ → ℕ → Bool
clips_now v c = clips_in v.scene (world_of v) c

-- client c's state after the entries
abbrev pub state_now : ReplayState → ℕ → State
state_now v c = ((world_of v).client c).state

-- the pixels after what is carried, if there is something, came along
abbrev pub carried_along : {A : Type 0} → Option Carry → (ℕ → ℕ → A) → ℕ → ℕ → A
carried_along None f x y = f x y
carried_along (Some carry) f x y = carried_by carry.rects carry.dx carry.dy f x y

-- back, with its depth, after a deed of client c
abbrev pub back_made : ReplayState → ℕ → Deed → (ℕ → ℕ → Pixel) → ℕ → ℕ → Pixel
back_made v c (Deed_is.Clear colour depth) f x y = if clips_now v c x y then record { colour = colour; depth = depth } else f x y
back_made v c (Deed_is.Triangle t) f x y =
    if clips_now v c x y then fragment (rules_of (state_now v c)) (own_image (textures_of v.scene c) (state_now v c).bound) t (across v.scene (world_of v) c x) (down v.scene (world_of v) c y) (f x y)
    else f x y
back_made v c (Deed_is.Touched touched) f x y = carried_along touched.carry f x y
back_made v c deed f x y = f x y

-- front after it, where back had these pairs
abbrev pub front_made : ReplayState → ℕ → Deed → (ℕ → ℕ → Pixel) → (ℕ → ℕ → Rgb) → ℕ → ℕ → Rgb
front_made v c Deed_is.Swap f shown x y = if clips_now v c x y then (f x y).colour else shown x y
front_made v c (Deed_is.Touched touched) f shown x y = filled touched.paints (carried_along touched.carry shown) x y
front_made v c deed f shown x y = shown x y

-- a screen of these sides can carry it: rectangles that stay on it, of which there are some, and none of which share a pixel
pub record CanCarry (width height : ℕ) (carry : Carry) : Type 0 where
  pub some : 0 < length carry.rects
  pub each : All (StaysOnScreen carry.dx carry.dy width height) carry.rects
  pub apart : AllPairs AreApart carry.rects

-- a screen of these sides can carry and paint what is touched
pub record CanShow (width height : ℕ) (touched : Touched) : Type 0 where
  pub carry : IfSome touched.carry (CanCarry width height)
  pub paints : All (λ p. IsOnScreen width height p.rect) touched.paints

-- what a deed of client c needs
abbrev pub MayMake : ReplayState → ℕ → Deed → Type 0
MayMake v c Deed_is.Nothing = Unit {0}
MayMake v c (Deed_is.Clear colour depth) = Contains (client_numbers v.scene.clients) c
MayMake v c (Deed_is.Triangle t) = Contains (client_numbers v.scene.clients) c × TriangleInRange t
MayMake v c Deed_is.Swap = Contains (client_numbers v.scene.clients) c
MayMake v c (Deed_is.Touched touched) = CanShow v.scene.width v.scene.height touched
