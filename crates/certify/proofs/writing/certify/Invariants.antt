use Rattle.certify.proofs.writing.certify.Given as goal

abbrev pub ghosts-certify_counted : goal.ghosts-certify_counted
ghosts-certify_counted g a = record { name = a.blank.name; parts = a.blank.parts }
