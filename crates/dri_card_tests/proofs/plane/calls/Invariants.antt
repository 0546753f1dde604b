use Rattle.dri_card_tests.proofs.plane.calls.Given as goal

abbrev pub ghosts-call_each : goal.ghosts-call_each
ghosts-call_each b a = record { name = a.blank.name; parts = a.blank.parts }
