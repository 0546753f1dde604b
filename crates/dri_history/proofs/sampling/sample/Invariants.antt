-- The ledger of the blank.
use Rattle.dri_history.proofs.sampling.sample.Given as goal

abbrev pub ghosts-counted_sample : goal.ghosts-counted_sample
ghosts-counted_sample a = record { name = a.blank.name; parts = a.blank.parts }
