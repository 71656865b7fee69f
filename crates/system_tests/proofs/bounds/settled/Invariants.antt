use Rattle.system_tests.proofs.bounds.settled.Given as goal

abbrev pub ghosts-settle_row : goal.ghosts-settle_row
ghosts-settle_row g a = record { name = a.blank.name; parts = a.blank.parts }
