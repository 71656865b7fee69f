use Rattle.base_tests.proofs.certificates.certificates_come_in_any_pieces.Given as goal

abbrev pub ghosts-told_of : goal.ghosts-told_of
ghosts-told_of g a = record { name = a.blank.name; parts = a.blank.parts }
