-- When the screen shows a frame as it is drawn alone.
use Rattle.std.specs.Prelude.{◌≡◌, ◌<◌, ℕ, pos, List, ◌∷◌, ◌++◌, true, Some}
use Rattle.dri_base.specs.declared.colour.Rgb.{Rgb}
use Rattle.dri_base.specs.declared.journal.Event.{Event}
use Rattle.dri_base.specs.declared.journal.Event.TheVariants.{Run}
use Rattle.dri_base.specs.declared.scene.Scene.{Scene}
use Rattle.dri_base.specs.Planes.{at, plane}
use Rattle.dri_base.specs.Scenes.{commands_of, window_of}
use Rattle.dri_core.specs.CoreRuns.{NoSwapIn, StandsIn, after_events, world_of}
use Rattle.dri_core.specs.Cores.{Core, opening_core}
use Rattle.dri_core.specs.EventTable.{after_event}
use Rattle.dri_core.specs.Frames.{across, down}
use Rattle.dri_core.specs.Solo.{frame}
use Rattle.dri_core.specs.Worlds.{clips_in}

-- the core after these events and then command i of client c
abbrev pub after_run : Scene → Core → List Event → ℕ → ℕ → Core
after_run s k events c i = after_event s (after_events s k events) (Run c i)

-- frame k of client c stood in the run from its last clear to its swap; then the client swapped no more, and its window was at most moved whole
pub record StoodLast (s : Scene) (events : List Event) (c k : ℕ) : Type 0 where
  pub first : ℕ
  pub last : ℕ
  pub numbered : frame (commands_of s c) k ≡ Some (first, last)
  pub past : List Event
  pub middle : List Event
  pub later : List Event
  pub swapped : events ≡ past ++ Run c first ∷ (middle ++ Run c last ∷ later)
  pub stood : StandsIn s (window_of s c) (after_run s (opening_core s) past c first) middle
  pub stays : StandsIn s (window_of s c) (after_run s (after_run s (opening_core s) past c first) middle c last) later
  pub no_more : NoSwapIn s c later

-- wherever client c's window shows after the run, the screen's pixel is the one that these pixels have at its place in the window, where they have it
abbrev pub IsOnScreen : Scene → List Event → ℕ → ℕ → ℕ → List Rgb → Type 0
IsOnScreen s events c width height pixels =
    (x y u v : ℕ) → clips_in s (world_of s events) c x y ≡ true → across s (world_of s events) c x ≡ pos u → down s (world_of s events) c y ≡ pos v → u < width → v < height →
    at s.width (plane s.width s.height (world_of s events).front) x y ≡ at width pixels u v
