use Rattle.ask_text.proofs.DocumentLines.{lines_of_document}
use Rattle.ask_text.proofs.laws.a_line_for_each_question.Goals as goal

pub returns : goal.returns
returns c = lines_of_document
