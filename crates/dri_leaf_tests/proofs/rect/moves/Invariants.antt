use Rattle.dri_leaf_tests.proofs.rect.moves.Given as goal

abbrev pub ghosts-move_one : goal.ghosts-move_one
ghosts-move_one b a = record { name = a.blank.name; parts = a.blank.parts }
