-- The ledger of the blank.
use Rattle.dri_shared.proofs.server_side.ServerSide.info.Given as goal

abbrev pub ghosts-copy_clips : goal.ghosts-copy_clips
ghosts-copy_clips a = record { name = a.blank.name; parts = a.blank.parts }
