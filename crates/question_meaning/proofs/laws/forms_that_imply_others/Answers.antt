use Rattle.run_model.specs.Cut.{initial, lengths}
use Rattle.run_model.proofs.Orders.{final_consistent, initial_consistent}
use Rattle.question_meaning.proofs.Answers.{at_end_surely, plain_surely, surely_can}
use Rattle.question_meaning.proofs.laws.forms_that_imply_others.Goals as goal

pub returns-clause-always_is_plain : goal.returns-clause-always_is_plain
returns-clause-always_is_plain c = λ r f all. all (initial r.clocks) (initial_consistent r.clocks)

pub returns-clause-plain_is_surely : goal.returns-clause-plain_is_surely
returns-clause-plain_is_surely c = plain_surely

pub returns-clause-always_is_at_end : goal.returns-clause-always_is_at_end
returns-clause-always_is_at_end c = λ r order f all. all (lengths r.clocks) (final_consistent r.clocks order)

pub returns-clause-at_end_is_surely : goal.returns-clause-at_end_is_surely
returns-clause-at_end_is_surely c = at_end_surely

pub returns-clause-surely_is_can : goal.returns-clause-surely_is_can
returns-clause-surely_is_can c = surely_can

pub returns-clause-can_is_not_never : goal.returns-clause-can_is_not_never
returns-clause-can_is_not_never c = λ r f can none. none can.0 can.1 can.2
