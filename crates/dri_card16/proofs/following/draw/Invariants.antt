-- The ledger of the blank.
use Rattle.dri_card16.proofs.following.draw.Given as goal

abbrev pub ghosts-draw_clips : goal.ghosts-draw_clips
ghosts-draw_clips a = record { name = a.blank.name; parts = a.blank.parts }
