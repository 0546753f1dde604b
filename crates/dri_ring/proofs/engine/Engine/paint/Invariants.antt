-- The ledger of the blank.
use Rattle.dri_ring.proofs.engine.Engine.paint.Given as goal

abbrev pub ghosts-paint_on : goal.ghosts-paint_on
ghosts-paint_on a = record { name = a.blank.name; parts = a.blank.parts }
