use Rattle.run_tests.proofs.slices.close.Given as goal

abbrev pub ghosts-closed_at : goal.ghosts-closed_at
ghosts-closed_at g a = record { name = a.blank.name; parts = a.blank.parts }
