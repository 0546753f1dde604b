-- The ledger of the blank.
use Rattle.dri_shared.proofs.server_side.ServerSide.gone.Given as goal

abbrev pub ghosts-unmap_windows : goal.ghosts-unmap_windows
ghosts-unmap_windows a = record { name = a.blank.name; parts = a.blank.parts }
