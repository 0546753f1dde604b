-- What always holds of the card.
use Rattle.std.specs.Prelude.{◌*◌, length}
use Rattle.dri_base.specs.Ranges.{IsSide}
use Rattle.dri_model.specs.Words.{IsBoundInRange, IsScissorInRange}
use Rattle.dri_card.specs.declared.card.Card.TheInside.{Inside}
use Rattle.dri_card.specs.Contents.{Contents, HaveSides, IsOnCard}
use Rattle.dri_card.specs.Lifting.{HaveRoom}
use Rattle.dri_card.specs.Loading.{IsImageWithin}

-- what the card holds
abbrev pub contents : Inside → Contents
contents c = record { front = c.front; back = c.target.back; depth = c.target.depth; registers = c.registers; memory = c.memory.items; clip = c.clip }

-- the planes have the same sides, 1 to 1,024; the bound image and the scissor are in range, and the image lies in the memory; the clip lies on the card
pub record FitTogether (v : Contents) : Type 0 where
  pub wide : IsSide v.front.width
  pub high : IsSide v.front.height
  pub sides : HaveSides v v.front.width v.front.height
  pub bound : IsBoundInRange v.registers.bound
  pub scissor : IsScissorInRange v.registers.scissor
  pub image : IsImageWithin (length v.memory) v.registers.bound
  pub clip : IsOnCard v.clip v

-- what the card holds fits together, and the lists have room for the pixels of the screen
pub record IsCard (c : Inside) : Type 0 where
  pub fit : FitTogether (contents c)
  pub room : HaveRoom (c.front.width * c.front.height) c.lifts
