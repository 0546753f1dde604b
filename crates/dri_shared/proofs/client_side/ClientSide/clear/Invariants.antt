-- The ledger of the blank.
use Rattle.dri_shared.proofs.client_side.ClientSide.clear.Given as goal

abbrev pub ghosts-clear_clips : goal.ghosts-clear_clips
ghosts-clear_clips a = record { name = a.blank.name; parts = a.blank.parts }
