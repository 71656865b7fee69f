use Rattle.verify_top.proofs.input.judge_front.Given as goal

abbrev pub ghosts-judge_certificate : goal.ghosts-judge_certificate
ghosts-judge_certificate g a = record { name = a.blank.name; parts = a.blank.parts }
