-- The brand is the blank's.
use Rattle.dri_flip.proofs.card.FlipCard.opening.Given as goal

abbrev pub ghosts-counted_front : goal.ghosts-counted_front
ghosts-counted_front a = record { name = a.blank.name; parts = a.blank.parts }
