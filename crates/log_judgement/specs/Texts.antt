-- The text that is due: the reports on the log after some of its batches, one after the other.
use Rattle.std.specs.Prelude.{◌≡◌, ℕ, Bool, List, [], ◌∷◌, ◌++◌}
use Rattle.run_model.specs.Run.{Watches}
use Rattle.run_report.specs.PassedOn.{Report}
use Rattle.run_report.specs.PassedOn.{report_text}
use Rattle.run_report.specs.Reports.{Asked, IsReportOf}
use Rattle.log_rules.specs.Judgement.{Prefix}
use Rattle.log_rules.specs.Due.{Due}
use Rattle.log_rules.specs.Reported.{reported}

-- the text is that of these logs, one behind the other, where this says which text each may have
abbrev pub AreTexts : (Prefix → List ℕ → Type 0) → List Prefix → List ℕ → Type 0
AreTexts Is [] text = text ≡ []
AreTexts Is (log ∷ logs) text =
    (front : List ℕ) × Is log front × (rest : List ℕ) × AreTexts Is logs rest
    × (text ≡ front ++ rest)

-- the text is that of the report on the log
abbrev pub IsReportText : Asked → Watches → Prefix → List ℕ → Type 0
IsReportText q watches log text =
    (report : Report) × IsReportOf q log.header log.batches watches report
    × (text ≡ report_text report)

-- the text is that of the reports on these logs
abbrev pub AreReports : Asked → Watches → List Prefix → List ℕ → Type 0
AreReports q watches logs text = AreTexts (IsReportText q watches) logs text

-- the text that is due
abbrev pub IsDueText : Asked → Watches → (each : Bool) → Due → List ℕ → Type 0
IsDueText q watches each d text = AreReports q watches (reported each d) text
