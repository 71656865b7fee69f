use Rattle.layer_rows.proofs.slice_row.judge.Given as goal

abbrev pub ghosts-difference_of : goal.ghosts-difference_of
ghosts-difference_of a = record { name = a.blank.name; parts = a.blank.parts }
