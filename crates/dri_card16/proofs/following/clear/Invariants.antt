-- The ledger of the blank.
use Rattle.dri_card16.proofs.following.clear.Given as goal

abbrev pub ghosts-clear_clips : goal.ghosts-clear_clips
ghosts-clear_clips a = record { name = a.blank.name; parts = a.blank.parts }
