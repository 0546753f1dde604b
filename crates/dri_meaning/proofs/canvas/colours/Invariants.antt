-- The brand is the blank's.
use Rattle.dri_meaning.proofs.canvas.colours.Given as goal

abbrev pub ghosts-colours_counted : goal.ghosts-colours_counted
ghosts-colours_counted a = record { name = a.blank.name; parts = a.blank.parts }
