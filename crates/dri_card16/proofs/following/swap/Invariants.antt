-- The ledger of the blank.
use Rattle.dri_card16.proofs.following.swap.Given as goal

abbrev pub ghosts-swap_clips : goal.ghosts-swap_clips
ghosts-swap_clips a = record { name = a.blank.name; parts = a.blank.parts }
