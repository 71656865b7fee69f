use Rattle.question_lines.proofs.QuestionLines.{question-free}
use Rattle.question_lines.proofs.read_questions_are_one_line.Goals as goal

pub returns : goal.returns
returns c = question-free
