-- A surface for one window, on which a frame is drawn alone.
use Rattle.std.specs.Prelude.{ℕ, ◌≡◌, Option, Some, None}
use Rattle.std.proofs.Common.{◌∙◌}
use Rattle.dri_base.specs.declared.colour.Pixel.{Pixel}
use Rattle.dri_base.specs.declared.state.Registers.{Registers}
use Rattle.dri_base.specs.declared.state.State.{State}
use Rattle.dri_base.specs.declared.texture.BoundTexture.{BoundTexture}
use Rattle.dri_base.specs.declared.texture.Texture.{Texture}
use Rattle.dri_base.specs.Planes.{plane}
use Rattle.dri_base.proofs.PlaneLists.{plane_same}
use Rattle.dri_plane.specs.Grids.{Grid}

-- the surface has these pairs
abbrev pub HasPairs : Grid Pixel → (ℕ → ℕ → Pixel) → Type 0
HasPairs pairs f = pairs.pixels ≡ plane pairs.width pairs.height f

-- and others that are equal at each place
pub pairs_alike : (pairs : Grid Pixel) (f g : ℕ → ℕ → Pixel) → ((x y : ℕ) → f x y ≡ g x y) → HasPairs pairs f → HasPairs pairs g
pairs_alike pairs f g same has = has ∙ plane_same pairs.width pairs.height f g (λ x y lx ly. same x y)

-- a texture at the front of a memory that is its own bytes
abbrev pub bound_first : Option Texture → Option BoundTexture
bound_first None = None
bound_first (Some t) = Some (record { shape = t.shape; base = 0 })

-- the registers of a state and its texture
abbrev pub registers_alone : State → Option Texture → Registers
registers_alone s texture = record {
  shade = s.shade;
  depth_func = s.depth_func;
  depth_write = s.depth_write;
  blend = s.blend;
  tex_mode = s.tex_mode;
  wrap = s.wrap;
  bound = bound_first texture;
  scissor = s.scissor;
}
