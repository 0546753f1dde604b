use Rattle.dri_leaf_tests.proofs.rect.operations.Given as goal

abbrev pub ghosts-each_case : goal.ghosts-each_case
ghosts-each_case b a = record { name = a.blank.name; parts = a.blank.parts }
