-- The ledger of the blank.
use Rattle.dri_ring.proofs.engine.Engine.carry.Given as goal

abbrev pub ghosts-carry_on : goal.ghosts-carry_on
ghosts-carry_on a = record { name = a.blank.name; parts = a.blank.parts }
