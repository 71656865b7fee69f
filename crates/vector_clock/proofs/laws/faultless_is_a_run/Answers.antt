use Rattle.vector_clock.proofs.BatchLaws.{trace_clocks}
use Rattle.vector_clock.proofs.Receipts.{faultless_run}
use Rattle.vector_clock.proofs.laws.faultless_is_a_run.Goals as goal

pub returns-clause-run : goal.returns-clause-run
returns-clause-run c = faultless_run

pub returns-clause-clocks : goal.returns-clause-clocks
returns-clause-clocks c = λ s. trace_clocks s.header.procs s.header.vars s.events
