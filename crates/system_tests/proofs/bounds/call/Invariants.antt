use Rattle.system_tests.proofs.bounds.call.Given as goal

abbrev pub ghosts-settle_and_lend : goal.ghosts-settle_and_lend
ghosts-settle_and_lend a = record { name = a.blank.name; parts = a.blank.parts }
