-- The brand is the blank's.
use Rattle.dri_scene_tests.proofs.ring.full_ring.Given as goal

abbrev pub ghosts-puts_two : goal.ghosts-puts_two
ghosts-puts_two b a = record { name = a.blank.name; parts = a.blank.parts }
