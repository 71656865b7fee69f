use Rattle.one_log_laws.proofs.Back.{one_text_is_written, no_greater_beginning_is_logged}
use Rattle.one_log_laws.proofs.a_torn_log_is_the_greatest_beginning.Goals as goal

pub returns-clause-one : goal.returns-clause-one
returns-clause-one c = one_text_is_written

pub returns-clause-greatest : goal.returns-clause-greatest
returns-clause-greatest c = no_greater_beginning_is_logged
