-- The ledger of the blank.
use Rattle.dri_card16.proofs.following.show.Given as goal

abbrev pub ghosts-show : goal.ghosts-show
ghosts-show a = record { name = a.blank.name; parts = a.blank.parts }
