-- What is due of two logs that tell of one run, as statements.
use Rattle.std.specs.Prelude.{ℕ, List, false}
use Rattle.run_model.specs.Run.{Watches, run_of}
use Rattle.run_model.specs.Class.{IsOfClass, IsKeptFor}
use Rattle.event_log.specs.declared.log.Log.{Log}
use Rattle.event_log.specs.States.{trace_of_log}
use Rattle.vector_clock.specs.Filled.{filled_log}
use Rattle.run_report.specs.Reports.{Asked}
use Rattle.equal_runs.specs.OneRun.{TellOfOneRun, IsFaultless}
use Rattle.equal_runs.specs.Laws.{DifferInTheBatchAlone}
use Rattle.log_rules.specs.Due.{Due}
use Rattle.log_judgement.specs.Texts.{IsDueText}
use Rattle.log_rules.specs.WholeLogs.{IsDueOfLog}

-- the last reports that are due of such logs are the same but for the line of the batch
abbrev pub TheirDueTextsDifferInTheBatchAlone : Type 0
TheirDueTextsDifferInTheBatchAlone =
    (q : Asked) (watches : Watches) → IsOfClass q.formula → (log other : Log)
    → TellOfOneRun log other → IsFaultless log → IsFaultless other
    → IsKeptFor (run_of (trace_of_log (filled_log log)) watches) q.formula
    → (d e : Due) → IsDueOfLog log d → IsDueOfLog other e → (t u : List ℕ)
    → IsDueText q watches false d t → IsDueText q watches false e u → DifferInTheBatchAlone t u
