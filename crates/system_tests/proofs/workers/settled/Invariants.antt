use Rattle.system_tests.proofs.workers.settled.Given as goal

abbrev pub ghosts-settle_counted : goal.ghosts-settle_counted
ghosts-settle_counted g a = record { name = a.blank.name; parts = a.blank.parts }
