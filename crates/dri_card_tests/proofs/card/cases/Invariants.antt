-- The brand is the blank's.
use Rattle.dri_card_tests.proofs.card.cases.Given as goal

abbrev pub ghosts-each_holds : goal.ghosts-each_holds
ghosts-each_holds b a = record { name = a.blank.name; parts = a.blank.parts }
