-- The brand is the blank's.
use Rattle.dri_bench.proofs.sixteen.run.Given as goal

abbrev pub ghosts-repeat : goal.ghosts-repeat
ghosts-repeat a = record { name = a.blank.name; parts = a.blank.parts }
