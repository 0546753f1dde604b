-- What the card's planes show, and the card before anything is drawn.
use Rattle.std.specs.Prelude.{◌≡◌, None, length, map, ℕ}
use Rattle.dri_base.specs.Ranges.{heap_bytes}
use Rattle.dri_base.specs.States.{default_state}
use Rattle.dri_base.specs.Texels.{sixteen_bits}
use Rattle.dri_base.specs.declared.colour.Rgb.{Rgb}
use Rattle.dri_base.specs.declared.scene.Scene.{Scene}
use Rattle.dri_model.specs.Stacks.{ground_colour, top}
use Rattle.dri_model.specs.Words.{registers_for}
use Rattle.dri_card.specs.Contents.{Contents, HaveSides, Holds, Shows, blank, empty_clip, memory_of}
use Rattle.dri_card16.specs.Packing.{kept}
use Rattle.dri_plane.specs.Formats.{shown_by}
use Rattle.dri_plane.specs.Grids.{Grid}

-- the colours that a plane of words shows
abbrev pub seen : Grid ℕ → Grid Rgb
seen words = shown_by (map sixteen_bits) words

-- a scene's card before anything is drawn: in front what is kept of the background of each pixel's topmost window, or of the root colour
pub record IsOpening16 (scene : Scene) (v : Contents) : Type 0 where
  pub sides : HaveSides v scene.width scene.height
  pub shown : Shows v (λ x y. kept (ground_colour scene.root (top scene.windows x y)))
  pub held : Holds v (λ x y. blank)
  pub registers : v.registers ≡ registers_for default_state None
  pub memory : memory_of v ≡ (λ a. 0)
  pub bytes : length v.memory ≡ heap_bytes scene
  pub clip : v.clip ≡ empty_clip
