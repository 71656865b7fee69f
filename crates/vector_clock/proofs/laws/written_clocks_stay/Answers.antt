use Rattle.event_log.specs.States.{with_batch}
use Rattle.vector_clock.proofs.FilledBatches.{stays_from, filled_fits}
use Rattle.vector_clock.proofs.FilledLogs.{written_log}
use Rattle.vector_clock.proofs.laws.written_clocks_stay.Goals as goal

pub returns-clause-batch : goal.returns-clause-batch
returns-clause-batch c = λ procs before batch some fits. stays_from procs (with_batch before batch) before batch some fits

pub returns-clause-log : goal.returns-clause-log
returns-clause-log c = written_log

pub returns-clause-fits : goal.returns-clause-fits
returns-clause-fits c = filled_fits
