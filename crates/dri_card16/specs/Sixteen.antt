-- The card that keeps colours in sixteen bits, and draws lines. Colours are the widened ones here: those that its words show.
use Rattle.std.specs.Prelude.{List, Option, if◌then◌else◌, ℕ, ℤ}
use Rattle.dri_base.specs.Fragments.{Rules}
use Rattle.dri_base.specs.Texels.{Image}
use Rattle.dri_base.specs.declared.colour.Pixel.{Pixel}
use Rattle.dri_base.specs.declared.colour.Rgb.{Rgb}
use Rattle.dri_base.specs.declared.journal.Entry.{Entry}
use Rattle.dri_base.specs.declared.scene.ClientScript.{ClientScript}
use Rattle.dri_base.specs.declared.scene.Scene.{Scene}
use Rattle.dri_base.specs.declared.shape.Triangle.{Triangle}
use Rattle.dri_card16.specs.Lines.{is_line, line_fragment}
use Rattle.dri_card16.specs.Packing.{kept}
use Rattle.dri_card16.specs.PixelRules.{PixelRule, kept_pair, solo_frame_with}
use Rattle.dri_card16.specs.RuleRuns.{ShowsWith, after_with}
use Rattle.dri_core.specs.Worlds.{World}
use Rattle.dri_walk.specs.Drawings.{fragment_kept}

-- the pair that a triangle, or the line that it is, leaves at the window's pixel (x, y), over the pair under it: sixteen bits are kept of what is written
abbrev pub fragment16 : Rules → Option Image → Triangle → ℤ → ℤ → Pixel → Pixel
fragment16 r image t x y under = if is_line t then line_fragment (kept_pair kept) r image t x y under else fragment_kept (kept_pair kept) r image t x y under

-- the pixel rule of the card
abbrev pub rule16 : PixelRule
rule16 = record { kept = kept; triangle = fragment16 }

-- frame k drawn alone, beginning with its clear, whose colour is packed: the colour at the window's pixel (x, y)
abbrev pub solo_frame16 : ClientScript → ℕ → ℤ → ℤ → Option Rgb
solo_frame16 p k x y = solo_frame_with rule16 p k x y

-- the world that a journal leaves
abbrev pub after16 : Scene → List Entry → World
after16 s journal = after_with rule16 s journal

-- front shows frame k drawn alone, wherever the window shows
abbrev pub Shows16 : Scene → ℕ → ℕ → World → Type 0
Shows16 s c k w = ShowsWith rule16 s c k w
