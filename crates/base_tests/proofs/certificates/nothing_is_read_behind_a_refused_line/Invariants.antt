use Rattle.base_tests.proofs.certificates.nothing_is_read_behind_a_refused_line.Given as goal

abbrev pub ghosts-told_and_next : goal.ghosts-told_and_next
ghosts-told_and_next g a = record { name = a.blank.name; parts = a.blank.parts }
