-- A card that follows a replay.
use Rattle.std.specs.Prelude.{◌≡◌, length}
use Rattle.dri_base.specs.Ranges.{heap_bytes}
use Rattle.dri_base.specs.declared.scene.Scene.{Scene}
use Rattle.dri_card.specs.Contents.{Contents, HaveSides, Holds, Shows}
use Rattle.dri_core.specs.Worlds.{World}

-- the card has a world's front and back, the scene's sides, and all of the texture memory
pub record Follows (s : Scene) (w : World) (card : Contents) : Type 0 where
  pub sides : HaveSides card s.width s.height
  pub bytes : length card.memory ≡ heap_bytes s
  pub shown : Shows card w.front
  pub held : Holds card w.back

-- nothing but the registers and the texture memory differs
abbrev pub OnlyLoaded : Contents → Contents → Type 0
OnlyLoaded old new = new ≡ record old { registers = new.registers; memory = new.memory }
