use Rattle.question_forms.proofs.Takes.{taken}
use Rattle.question_forms.proofs.Regular.{local_regular}
use Rattle.question_forms.proofs.laws.forms_take.Goals as goal

pub returns-clause-exactly : goal.returns-clause-exactly
returns-clause-exactly c = taken

pub returns-clause-local : goal.returns-clause-local
returns-clause-local c = local_regular
