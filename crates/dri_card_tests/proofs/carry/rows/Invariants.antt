-- The brand is the blank's.
use Rattle.dri_card_tests.proofs.carry.rows.Given as goal

abbrev pub ghosts-carry_each : goal.ghosts-carry_each
ghosts-carry_each b a = record { name = a.blank.name; parts = a.blank.parts }
