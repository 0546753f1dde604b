-- The brand is the blank's.
use Rattle.dri_card16.proofs.card.Card16.new.Given as goal

abbrev pub ghosts-opening : goal.ghosts-opening
ghosts-opening a = record { name = a.blank.name; parts = a.blank.parts }
