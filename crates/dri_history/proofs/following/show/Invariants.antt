-- The ledger of the blank.
use Rattle.dri_history.proofs.following.show.Given as goal

abbrev pub ghosts-show : goal.ghosts-show
ghosts-show a = record { name = a.blank.name; parts = a.blank.parts }
