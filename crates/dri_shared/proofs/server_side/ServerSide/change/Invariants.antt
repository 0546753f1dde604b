-- The ledger of the blank.
use Rattle.dri_shared.proofs.server_side.ServerSide.change.Given as goal

abbrev pub ghosts-change_windows : goal.ghosts-change_windows
ghosts-change_windows a = record { name = a.blank.name; parts = a.blank.parts }
