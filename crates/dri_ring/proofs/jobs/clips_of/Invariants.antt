-- The brand is the blank's.
use Rattle.dri_ring.proofs.jobs.clips_of.Given as goal

abbrev pub ghosts-copy_of : goal.ghosts-copy_of
ghosts-copy_of a = record { name = a.blank.name; parts = a.blank.parts }
