-- What the laws of this crate say.
use Rattle.std.specs.Prelude.{ℕ, List, Bool, Option}
use Rattle.log_rules.specs.Judgement.{Prefix, with_rules}
use Rattle.log_rules.specs.Readings.{Reading, IsReading}
use Rattle.log_rules.specs.Due.{due}
use Rattle.log_rules.specs.Reported.{reported}
use Rattle.std.specs.List.{AllByRecursion}
use Rattle.run_model.specs.Run.{clocks_of}
use Rattle.run_model.specs.Consistent.{IsOrder}
use Rattle.log_rules.specs.SoFar.{trace_so_far}
use Rattle.rctl_grammar.specs.declared.fault.FormulaFault.{FormulaFault}
use Rattle.event_log.specs.declared.log.Header.{Header}
use Rattle.counter_preds.specs.declared.values.Variable.{Variable}

-- the clocks of each log that has a report are an order
abbrev pub ReportedLogsAreRuns : Type 0
ReportedLogsAreRuns = (names : Header → Option FormulaFault) (counters : Header → List Variable)
    (most : ℕ) (reading : Reading) → IsReading most reading
    → (each ended : Bool) (bytes : List ℕ)
    → AllByRecursion (λ (log : Prefix).
    IsOrder (clocks_of (trace_so_far log.header log.batches)))
    (reported each (due reading (with_rules names counters) ended bytes))
