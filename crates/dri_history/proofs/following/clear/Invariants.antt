-- The ledger of the blank.
use Rattle.dri_history.proofs.following.clear.Given as goal

abbrev pub ghosts-clear_clips : goal.ghosts-clear_clips
ghosts-clear_clips a = record { name = a.blank.name; parts = a.blank.parts }
