-- The text that is due of a whole log is that of its last report.
use Rattle.std.proofs.Common.{◌≡◌, ℕ, List, [], ◌∷◌, ◌++◌, sym, ap, ◌∙◌, subst, append-nil}
use Rattle.std.specs.Prelude.{Option, false}
use Rattle.run_model.specs.Run.{Watches, run_of}
use Rattle.run_model.specs.Class.{IsOfClass, IsKeptFor}
use Rattle.event_log.specs.declared.log.Log.{Log}
use Rattle.event_log.specs.States.{trace_of_log}
use Rattle.vector_clock.specs.Filled.{filled_log}
use Rattle.report.specs.declared.report.Report.{Report}
use Rattle.report.specs.Spelling.{report_text}
use Rattle.run_report.specs.Reports.{Asked}
use Rattle.equal_runs.specs.OneRun.{TellOfOneRun, IsFaultless}
use Rattle.equal_runs.specs.Laws.{IsLastReportOf, DifferInTheBatchAlone}
use Rattle.equal_runs.proofs.Reports.{equal_texts}
use Rattle.log_rules.specs.Judgement.{Prefix}
use Rattle.log_rules.specs.Due.{Due}
use Rattle.log_judgement.specs.Texts.{AreReports, IsDueText}
use Rattle.log_rules.specs.Reported.{listed}
use Rattle.log_rules.specs.WholeLogs.{all_of, IsDueOfLog}

-- the report behind a text
record IsLastText (q : Asked) (watches : Watches) (log : Log) (text : List ℕ) : Type 0 where
  report : Report
  says : IsLastReportOf q watches log report
  text_is : text ≡ report_text report

last_text : (q : Asked) (watches : Watches) (log : Log) (d : Due) (text : List ℕ) → IsDueOfLog log d → IsDueText q watches false d text → IsLastText q watches log text
last_text q watches log d text due is =
    let one : AreReports q watches (all_of (filled_log log) ∷ []) text = subst (λ (o : Option Prefix). AreReports q watches (listed o) text) due.whole is in
    record {
      report = one.1.0;
      says = one.1.1;
      text_is = one.4 ∙ ap (λ (rest : List ℕ). one.0 ++ rest) one.3 ∙ append-nil one.0 ∙ one.1.2;
    }

pub equal_dues : (q : Asked) (watches : Watches) → IsOfClass q.formula → (log other : Log) → TellOfOneRun log other → IsFaultless log → IsFaultless other
    → IsKeptFor (run_of (trace_of_log (filled_log log)) watches) q.formula
    → (d e : Due) → IsDueOfLog log d → IsDueOfLog other e → (t u : List ℕ) → IsDueText q watches false d t → IsDueText q watches false e u → DifferInTheBatchAlone t u
equal_dues q watches class log other one fine other_fine kept d e of_log of_other t u is other_is =
    let left = last_text q watches log d t of_log is in
    let right = last_text q watches other e u of_other other_is in
    subst (λ (x : List ℕ). DifferInTheBatchAlone x u) (sym left.text_is)
    (subst (λ (x : List ℕ). DifferInTheBatchAlone (report_text left.report) x) (sym right.text_is)
    (equal_texts q watches class log other one fine other_fine kept left.report right.report left.says right.says))
