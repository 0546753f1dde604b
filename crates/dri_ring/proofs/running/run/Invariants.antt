-- The ledgers of the blanks.
use Rattle.dri_ring.proofs.running.run.Given as goal

abbrev pub ghosts-clear_clips : goal.ghosts-clear_clips
ghosts-clear_clips a = record { name = a.blank.name; parts = a.blank.parts }

abbrev pub ghosts-draw_clips : goal.ghosts-draw_clips
ghosts-draw_clips a = record { name = a.blank.name; parts = a.blank.parts }

abbrev pub ghosts-swap_clips : goal.ghosts-swap_clips
ghosts-swap_clips a = record { name = a.blank.name; parts = a.blank.parts }
