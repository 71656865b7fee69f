-- Logs that tell of one run have equal runs, and equal reports.
use Rattle.std.proofs.Common.{◌≡◌, ℕ, List, [], ◌∷◌, length, map, drop, refl, sym, ap, ◌∙◌, subst}
use Rattle.std.specs.Prelude.{None}
use Rattle.run_model.specs.Run as run
use Rattle.run_model.specs.Run.{Trace, Watches, clocks_of, run_of}
use Rattle.run_model.specs.Class.{IsOfClass, IsKeptFor}
use Rattle.event_log.specs.declared.log.Binding.{Binding}
use Rattle.event_log.specs.declared.log.Event.{Event}
use Rattle.event_log.specs.declared.log.Log.{Log}
use Rattle.event_log.specs.Laws.{IsLog}
use Rattle.event_log.specs.States.{variable_of, event_of, processes_of, with_batches, trace_of_log}
use Rattle.vector_clock.specs.Events.{Events, no_events}
use Rattle.vector_clock.specs.Faults.{log_fault}
use Rattle.vector_clock.specs.Fill.{all_events}
use Rattle.vector_clock.specs.Filled.{filled_log}
use Rattle.vector_clock.proofs.BatchLaws.{all_stand}
use Rattle.vector_clock.proofs.FilledLogs.{log_is_a_run}
use Rattle.report.specs.declared.report.Report.{Report}
use Rattle.report.specs.Spelling.{report_lines, report_text}
use Rattle.run_report.specs.Reports.{Asked, IsReportOn, IsReportOf}
use Rattle.log_rules.specs.SoFar.{trace_so_far, counted}
use Rattle.run_report.proofs.Numbers.{same_but_for_number}
use Rattle.clock_laws.proofs.Sent.{log_settled}
use Rattle.equal_runs.specs.OneRun.{without_line, without_lines, events_of, TellOfOneRun, IsFaultless}
use Rattle.equal_runs.specs.Laws.{IsLastReportOf, DifferInTheBatchAlone}
use Rattle.equal_runs.proofs.Filled.{same_filled}

-- ---- runs

-- a run knows no lines
no_lines : (names : List (List ℕ)) (vars : List (List Binding)) (events : Events) → processes_of names vars (without_lines events) ≡ processes_of names vars events
no_lines [] vars events = refl
no_lines (n ∷ names) [] events = refl
no_lines (n ∷ names) (v ∷ vars) [] = refl
no_lines (n ∷ names) (v ∷ vars) (es ∷ events) =
    ap (λ (xs : List run.Event). record { name = n; variables = map variable_of v; events = xs } ∷ processes_of names vars (without_lines events)) (same es)
    ∙ ap (λ (t : Trace). record { name = n; variables = map variable_of v; events = map event_of es } ∷ t) (no_lines names vars events)
  where
    same : (xs : List Event) → map event_of (map without_line xs) ≡ map event_of xs
    same [] = refl
    same (x ∷ xs) = ap (λ (rs : List run.Event). event_of x ∷ rs) (same xs)

-- the events of a log, filled
abbrev full : Log → Events
full log = all_events (length log.header.procs) (filled_log log).batches

full_lines : (log other : Log) → TellOfOneRun log other → IsFaultless log → IsFaultless other → without_lines (full other) ≡ without_lines (full log)
full_lines log other one fine other_fine =
    same_filled (events_of other) (events_of log) (full other) (full log) one.events
    (log_settled (length other.header.procs) other.batches other_fine.each other_fine.faultless).clocked
    (log_settled (length log.header.procs) log.batches fine.each fine.faultless).clocked

pub equal_runs : (log other : Log) → TellOfOneRun log other → IsFaultless log → IsFaultless other → trace_of_log (filled_log other) ≡ trace_of_log (filled_log log)
equal_runs log other one fine other_fine =
    sym (no_lines other.header.procs other.header.vars (full other))
    ∙ (λ i. processes_of (one.procs i) (one.vars i) (full_lines log other one fine other_fine i))
    ∙ no_lines log.header.procs log.header.vars (full log)

-- ---- reports

pub equal_reports : (q : Asked) (watches : Watches) → IsOfClass q.formula → (log other : Log) → TellOfOneRun log other → IsFaultless log → IsFaultless other
    → IsKeptFor (run_of (trace_of_log (filled_log log)) watches) q.formula
    → (a b : Report) → IsLastReportOf q watches log a → IsLastReportOf q watches other b → a ≡ record b { batch = a.batch }
equal_reports q watches class log other one fine other_fine kept a b left right =
    let batches = (filled_log log).batches in
    let others = (filled_log other).batches in
    let headed : trace_so_far other.header others ≡ trace_so_far log.header others =
    λ i. processes_of (one.procs i) (one.vars i) (with_batches (no_events (length (one.procs i))) others) in
    let moved : IsReportOf q log.header others watches b = record {
      names = right.names ∙ one.procs;
      says = subst (λ (t : Trace). IsReportOn q (counted others) t watches b) headed right.says;
    } in
    same_but_for_number q log.header batches others watches class ((log_is_a_run log fine.vars fine.each fine.faultless).run watches).order kept
    (sym (equal_runs log other one fine other_fine) ∙ headed) a b left moved

-- ---- texts

same_lines : (a b : Report) → a ≡ record b { batch = a.batch } → DifferInTheBatchAlone (report_text a) (report_text b)
same_lines a b same = record { one = a.batch; other = b.batch; rest = drop 2 (report_lines b); t_is = ap report_text same; u_is = refl }

pub equal_texts : (q : Asked) (watches : Watches) → IsOfClass q.formula → (log other : Log) → TellOfOneRun log other → IsFaultless log → IsFaultless other
    → IsKeptFor (run_of (trace_of_log (filled_log log)) watches) q.formula
    → (a b : Report) → IsLastReportOf q watches log a → IsLastReportOf q watches other b → DifferInTheBatchAlone (report_text a) (report_text b)
equal_texts q watches class log other one fine other_fine kept a b left right = same_lines a b (equal_reports q watches class log other one fine other_fine kept a b left right)

pub text_is_fine : (log : Log) → IsLog log → log_fault (filled_log log) ≡ None → IsFaultless log
text_is_fine log is none = record { vars = is.fits.header.all; each = all_stand log.header _ log.batches is.fits.batches; faultless = none }
