use Rattle.one_log_laws.proofs.Back.{written_again_it_is_the_same, it_is_read_as_it_was_written}
use Rattle.one_log_laws.proofs.what_is_written_stays.Goals as goal

pub returns-clause-again : goal.returns-clause-again
returns-clause-again c = written_again_it_is_the_same

pub returns-clause-run : goal.returns-clause-run
returns-clause-run c = it_is_read_as_it_was_written
