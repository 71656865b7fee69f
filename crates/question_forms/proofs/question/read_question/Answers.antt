use Rattle.rctl_class.proofs.Derived.{within_limits}
use Rattle.question_forms.proofs.question.read_question.Goals as goal

pub ask_formula-requires : goal.ask_formula-requires
ask_formula-requires c = within_limits _ c.in-Ok-parse.formula.tree c.in-Ok-parse.ensures.read.1
