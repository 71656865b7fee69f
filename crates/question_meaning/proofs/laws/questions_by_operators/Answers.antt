use Rattle.question_meaning.proofs.Answers.{always_is, always_negated, at_end_is, can_is, never_is, surely_is}
use Rattle.question_meaning.proofs.laws.questions_by_operators.Goals as goal

pub returns-clause-never : goal.returns-clause-never
returns-clause-never c = never_is

pub returns-clause-can : goal.returns-clause-can
returns-clause-can c = can_is

pub returns-clause-always : goal.returns-clause-always
returns-clause-always c = always_is

pub returns-clause-always_by_negation : goal.returns-clause-always_by_negation
returns-clause-always_by_negation c = always_negated

pub returns-clause-surely : goal.returns-clause-surely
returns-clause-surely c = surely_is

pub returns-clause-at_end : goal.returns-clause-at_end
returns-clause-at_end c = at_end_is
