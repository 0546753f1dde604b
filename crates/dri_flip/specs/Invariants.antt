-- What always holds of the card.
use Rattle.std.specs.Prelude.{◌≡◌, ◌*◌, if◌then◌else◌}
use Rattle.dri_base.specs.Ranges.{IsSide}
use Rattle.dri_card.specs.Lifting.{HaveRoom}
use Rattle.dri_flip.specs.declared.card.FlipCard.TheInside.{Inside}
use Rattle.dri_flip.specs.Meanings.{Meaning}

-- what the card means: where a copy is owed, back has what front has
abbrev pub meaning : Inside → Meaning
meaning c = record { front = c.front; back = if c.owed then c.front else c.target.back; depth = c.target.depth; owed = c.owed }

-- the planes have the same sides, 1 to 1,024, and the lists have room for the pixels of the screen
pub record IsFlipCard (c : Inside) : Type 0 where
  pub wide : IsSide c.front.width
  pub high : IsSide c.front.height
  pub back_width : c.target.back.width ≡ c.front.width
  pub back_height : c.target.back.height ≡ c.front.height
  pub depth_width : c.target.depth.width ≡ c.front.width
  pub depth_height : c.target.depth.height ≡ c.front.height
  pub room : HaveRoom (c.front.width * c.front.height) c.lifts
