use Rattle.ask_top.proofs.observed.answer_log.Given as goal

abbrev pub ghosts-answer_observed : goal.ghosts-answer_observed
ghosts-answer_observed g a = record { name = a.blank.name; parts = a.blank.parts }
