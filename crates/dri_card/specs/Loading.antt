-- Registers and texture memory that are loaded, and what is refused.
use Rattle.std.specs.Prelude.{ℕ, ◌≡◌, ◌<◌, ◌+◌, List, length, Option, Some, None}
use Rattle.dri_base.specs.declared.state.Registers.{Registers}
use Rattle.dri_base.specs.declared.texture.BoundTexture.{BoundTexture}
use Rattle.dri_model.specs.WordFaults.{IsBadWord}
use Rattle.dri_model.specs.Words.{Spelled, loaded}
use Rattle.dri_card.specs.declared.faults.OutsideCard.{OutsideCard}
use Rattle.dri_card.specs.declared.faults.OutsideCard.TheVariants.{Base}
use Rattle.dri_card.specs.declared.faults.LoadFault.{LoadFault}
use Rattle.dri_card.specs.declared.faults.LoadFault.TheVariants.{BadWord, Outside}
pub use Rattle.dri_walk.specs.Samplings.{IsImageWithin, image_bytes}
use Rattle.dri_card.specs.Contents.{Contents}

-- the bound image passes so many bytes of memory; the refusal names its first byte and how many it has
abbrev pub PassesMemory : ℕ → Option BoundTexture → OutsideCard → Type 0
PassesMemory bytes None outside = ⊥
PassesMemory bytes (Some b) outside = (bytes < b.base + image_bytes b.shape) × (outside ≡ Base b.base (image_bytes b.shape))

-- the registers that words leave
abbrev pub registers_after : {words : List ℕ} → Spelled words → Contents → Registers
registers_after s v = loaded s.groups s.registers v.registers

-- the words can be loaded: the bound image that they leave lies within the memory
pub record CanLoad (words : List ℕ) (v : Contents) : Type 0 where
  pub spelled : Spelled words
  pub within : IsImageWithin (length v.memory) (registers_after spelled v).bound

-- why they can't: they spell no registers, or the bound image that they leave passes the memory
abbrev pub IsLoadFault : List ℕ → Contents → LoadFault → Type 0
IsLoadFault words v (BadWord b) = IsBadWord Spelled words b.at b.word
IsLoadFault words v (Outside outside) = (s : Spelled words) × PassesMemory (length v.memory) (registers_after s v).bound outside
