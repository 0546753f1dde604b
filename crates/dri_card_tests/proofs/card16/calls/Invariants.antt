-- The brand is the blank's.
use Rattle.dri_card_tests.proofs.card16.calls.Given as goal

abbrev pub ghosts-each_call : goal.ghosts-each_call
ghosts-each_call b a = record { name = a.blank.name; parts = a.blank.parts }
