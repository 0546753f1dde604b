-- The brand is the blank's.
use Rattle.dri_flip.proofs.replay.replay_flip.Given as goal

abbrev pub ghosts-counted_replay : goal.ghosts-counted_replay
ghosts-counted_replay a = record { name = a.blank.name; parts = a.blank.parts }
