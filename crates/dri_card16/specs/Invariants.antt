-- What always holds of the card.
use Rattle.std.specs.Prelude.{◌*◌}
use Rattle.dri_card.specs.Contents.{Contents}
use Rattle.dri_card.specs.Invariants.{FitTogether}
use Rattle.dri_card.specs.Lifting.{HaveRoom}
use Rattle.dri_card16.specs.Widened.{seen}
use Rattle.dri_card16.specs.declared.card.Card16.TheInside.{Inside}

-- what the card holds: colours are the widened ones, those that its words show
abbrev pub contents : Inside → Contents
contents c = record { front = seen c.front; back = seen c.target.back; depth = c.target.depth; registers = c.registers; memory = c.memory.items; clip = c.clip }

-- what the card holds fits together, and the lists have room for the pixels of the screen
pub record IsCard16 (c : Inside) : Type 0 where
  pub fit : FitTogether (contents c)
  pub room : HaveRoom (c.front.width * c.front.height) c.lifts
