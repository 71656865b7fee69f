use Rattle.pota_top.proofs.inquiring.answer_reports.Given as goal

abbrev pub ghosts-check_text : goal.ghosts-check_text
ghosts-check_text g a = record { name = a.blank.name; parts = a.blank.parts }

abbrev pub ghosts-check_records : goal.ghosts-check_records
ghosts-check_records g a = record { name = a.blank.name; parts = a.blank.parts }

abbrev pub ghosts-check_logs : goal.ghosts-check_logs
ghosts-check_logs g a = record { name = a.blank.name; parts = a.blank.parts }
