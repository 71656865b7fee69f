use Rattle.question_forms.proofs.Readings.{some, not_both, one_asking, one_fault}
use Rattle.question_forms.proofs.laws.each_text_is_read_or_has_a_fault.Goals as goal

pub returns-clause-some : goal.returns-clause-some
returns-clause-some c = some

pub returns-clause-not_both : goal.returns-clause-not_both
returns-clause-not_both c = not_both

pub returns-clause-one_reading : goal.returns-clause-one_reading
returns-clause-one_reading c = one_asking

pub returns-clause-one_fault : goal.returns-clause-one_fault
returns-clause-one_fault c = one_fault
