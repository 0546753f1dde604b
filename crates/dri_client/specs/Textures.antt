-- The textures of a client: their shapes, which one is missing, and the age up to which it knows the regions.
use Rattle.std.specs.Prelude.{Bool, List, Option, None, Some, if◌then◌else◌, is_none, length, ℕ}
use Rattle.dri_base.specs.declared.texture.TexShape.{TexShape}
use Rattle.dri_base.specs.declared.texture.Texture.{Texture}
use Rattle.dri_base.specs.Texels.{texture_in}
use Rattle.dri_base.specs.Scenes.{bytes_of}
use Rattle.dri_base.specs.declared.scene.ClientScript.{ClientScript}
use Rattle.dri_core.specs.Privates.{room_by, run_in, spot_of, textured_with}
use Rattle.dri_model.specs.Heaps.{Heap, Run, Spot}
use Rattle.dri_model.specs.Shares.{blocks_for, is_small_for}
use Rattle.dri_texheap.specs.Placements.{levels_of, placed_of}
use Rattle.dri_client.specs.Parts.{PartState}

-- a texture's shape, where there is a texture
abbrev pub shape_of : Option Texture → Option TexShape
shape_of None = None
shape_of (Some texture) = Some texture.shape

-- the shape of texture t of a list
abbrev pub shape_in : List Texture → ℕ → Option TexShape
shape_in textures t = shape_of (texture_in textures t)

-- the texture that a triangle needs, where it isn't placed
abbrev pub missing_in : (ℕ → Option Spot) → Option ℕ → Option ℕ
missing_in placed None = None
missing_in placed (Some t) = if is_none (placed t) then Some t else None

-- the texture that a part's triangles need, where it isn't placed
abbrev pub missing_texture : PartState → Option ℕ
missing_texture p = missing_in (placed_of p.placed) (textured_with p.state)

-- where the texture stands that a part's triangles need, and its run
abbrev pub spot_used : PartState → Option Spot
spot_used p = spot_of (placed_of p.placed) (textured_with p.state)

abbrev pub run_used : PartState → Option Run
run_used p = run_in (spot_used p)

-- how many bytes texture t of a script has
abbrev pub bytes_in : ClientScript → ℕ → ℕ
bytes_in script t = length (bytes_of (texture_in script.textures t))

-- the blocks that it takes in a shared region; none where it isn't small
abbrev pub blocks_of : ℕ → ClientScript → ℕ → ℕ
blocks_of size script t = if is_small_for size (bytes_in script t) then blocks_for (bytes_in script t) else 0

-- the room for it in a part's shared regions
abbrev pub room_of : ℕ → ClientScript → PartState → ℕ → Option Spot
room_of size script p t = room_by size (levels_of p.placed) (bytes_in script t)

-- the age up to which a client knows the regions of this heap, where it has used some of them, and else the age that it knew
abbrev pub age_known : Heap → ℕ → Bool → ℕ
age_known h local used = if used then h.global else local
