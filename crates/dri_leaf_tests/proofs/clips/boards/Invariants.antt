use Rattle.dri_leaf_tests.proofs.clips.boards.Given as goal

abbrev pub ghosts-each_board : goal.ghosts-each_board
ghosts-each_board b a = record { name = a.blank.name; parts = a.blank.parts }
