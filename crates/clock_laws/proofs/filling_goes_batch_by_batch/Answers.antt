use Rattle.clock_laws.proofs.Logs.{clock_behind, one_more, log_clocked}
use Rattle.clock_laws.proofs.filling_goes_batch_by_batch.Goals as goal

pub returns-clause-behind : goal.returns-clause-behind
returns-clause-behind c = λ procs batches filled batch x clock have has. clock_behind procs batches batch filled have x clock has

pub returns-clause-more : goal.returns-clause-more
returns-clause-more c = λ procs batches filled batch stands have. one_more procs batches batch filled have stands

pub returns-clause-log : goal.returns-clause-log
returns-clause-log c = log_clocked
