-- Laws of logs that tell of one run, as statements.
use Rattle.std.specs.Prelude.{◌≡◌, ℕ, List, ◌∷◌, None}
use Rattle.run_model.specs.Run.{Watches, run_of}
use Rattle.run_model.specs.Class.{IsOfClass, IsKeptFor}
use Rattle.event_log.specs.declared.log.Log.{Log}
use Rattle.event_log.specs.Before.{Line}
use Rattle.event_log.specs.Laws.{IsLog}
use Rattle.event_log.specs.LogText.{text_of}
use Rattle.event_log.specs.States.{trace_of_log}
use Rattle.vector_clock.specs.Faults.{log_fault}
use Rattle.vector_clock.specs.Filled.{filled_log}
use Rattle.report_lines.specs.Spelling.{title, batch_line}
use Rattle.report.specs.declared.report.Report.{Report}
use Rattle.report.specs.Spelling.{report_text}
use Rattle.run_report.specs.Reports.{Asked, IsReportOf}
use Rattle.equal_runs.specs.OneRun.{TellOfOneRun, IsFaultless}

-- the runs of such logs are equal, the clocks that were left out among them
abbrev pub TheirRunsAreEqual : Type 0
TheirRunsAreEqual =
    (log other : Log) → TellOfOneRun log other → IsFaultless log → IsFaultless other
    → trace_of_log (filled_log other) ≡ trace_of_log (filled_log log)

-- the report on the whole of a log
abbrev pub IsLastReportOf : Asked → Watches → Log → Report → Type 0
IsLastReportOf q watches log report =
    IsReportOf q log.header (filled_log log).batches watches report

-- and so are their last reports, but for the number of the last batch
abbrev pub TheirReportsAreEqual : Type 0
TheirReportsAreEqual =
    (q : Asked) (watches : Watches) → IsOfClass q.formula → (log other : Log)
    → TellOfOneRun log other → IsFaultless log → IsFaultless other
    → IsKeptFor (run_of (trace_of_log (filled_log log)) watches) q.formula
    → (a b : Report) → IsLastReportOf q watches log a → IsLastReportOf q watches other b
    → a ≡ record b { batch = a.batch }

-- the texts of two reports are the same but for the line with the number of the batch
pub record DifferInTheBatchAlone (t u : List ℕ) : Type 0 where
  pub one : ℕ
  pub other : ℕ
  pub rest : List Line
  pub t_is : t ≡ text_of (title ∷ batch_line one ∷ rest)
  pub u_is : u ≡ text_of (title ∷ batch_line other ∷ rest)

-- so the texts of these reports are
abbrev pub TheirTextsDifferInTheBatchAlone : Type 0
TheirTextsDifferInTheBatchAlone =
    (q : Asked) (watches : Watches) → IsOfClass q.formula → (log other : Log)
    → TellOfOneRun log other → IsFaultless log → IsFaultless other
    → IsKeptFor (run_of (trace_of_log (filled_log log)) watches) q.formula
    → (a b : Report) → IsLastReportOf q watches log a → IsLastReportOf q watches other b
    → DifferInTheBatchAlone (report_text a) (report_text b)

-- a log that has a text is such a log, where its filled batches have no fault
abbrev pub LogsOfTextsAreSuchLogs : Type 0
LogsOfTextsAreSuchLogs =
    (log : Log) → IsLog log → log_fault (filled_log log) ≡ None → IsFaultless log
