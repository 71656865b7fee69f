use Rattle.ask_laws.proofs.Said.{each_has_its_line, not_ok_and_ok, ok_or_not_ok}
use Rattle.ask_laws.proofs.each_question_has_its_line.Goals as goal

pub returns-clause-lines : goal.returns-clause-lines
returns-clause-lines c = each_has_its_line

pub returns-clause-either : goal.returns-clause-either
returns-clause-either c = ok_or_not_ok

pub returns-clause-not_both : goal.returns-clause-not_both
returns-clause-not_both c = not_ok_and_ok
