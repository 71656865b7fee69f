-- What the reading of lines answers.
use Rattle.std.proofs.Common.{◌≡◌, ℕ, Option, Some, None, Result, Ok, Err, List, [], ◌∷◌, ◌++◌, refl, sym, subst, ◌∙◌}
use Rattle.std.specs.Prelude.{IfOk, IfErr, MatchResult}
use Rattle.pota_base.specs.declared.fault.Refused.{Refused}
use Rattle.pota_base.specs.declared.fault.Refused.TheVariants as refused
use Rattle.event_log.specs.Moments.{HasNoFeed}
use Rattle.report.specs.declared.report.Report.{Report}
use Rattle.report.specs.declared.report.ReportFault.{ReportFault}
use Rattle.report.specs.declared.draft.Draft.{Draft}
use Rattle.report.specs.declared.draft.Draft.TheVariants as draft
use Rattle.report.specs.Spelling.{IsWellFormed, report_text}
use Rattle.report.specs.Fault.{IsFaultIn, IsTextOf, Faults}
use Rattle.report.specs.Machine.{step}
use Rattle.report.specs.inside.Machine.{IsUnfinished}
use Rattle.report.proofs.FaultLaws.{AreTaken, refused_line, cut_short, whole_report, one_report}

pub line_refused : (text rest front after : List ℕ) (line : ℕ) (d : Draft) (e : Refused ReportFault) → AreTaken text rest line d → HasNoFeed front → rest ≡ front ++ 10 ∷ after
    → Faults e (λ f. (f.line ≡ line) × (step d front ≡ None)) → Faults e (λ f. IsFaultIn text f.line)
line_refused text rest front after line d (refused.Fault f) t plain split h = subst (IsFaultIn text) (sym h.0) (refused_line text rest line d t front after plain split h.1)
line_refused text rest front after line d refused.NoMemory t plain split h = tt

pub lines_over : (text rest : List ℕ) (line : ℕ) (d : Draft) (result : Result Report (Refused ReportFault)) → AreTaken text rest line d → HasNoFeed rest
    → IfOk result (λ r. (d ≡ draft.Over r) × (rest ≡ [])) → IfErr result (λ e. Faults e (λ f. (f.line ≡ line) × IsUnfinished d rest)) → MatchResult result (IsTextOf text) (λ e. Faults e (λ f. IsFaultIn text f.line))
lines_over text rest line d (Ok r) t plain read fault = whole_report text rest line d r t read.0 read.1
lines_over text rest line d (Err (refused.Fault f)) t plain read fault = subst (IsFaultIn text) (sym fault.0) (cut_short text rest line d t plain fault.1)
lines_over text rest line d (Err refused.NoMemory) t plain read fault = tt

pub only_report : (text : List ℕ) (result : Result Report (Refused ReportFault)) → MatchResult result (IsTextOf text) (λ e. Faults e (λ f. IsFaultIn text f.line)) → (r : Report) → IsWellFormed r → text ≡ report_text r
    → MatchResult result (λ q. q ≡ r) (λ e. e ≡ refused.NoMemory)
only_report text (Ok q) h r fits same = one_report q r h.fits fits (sym h.text_is ∙ same)
only_report text (Err (refused.Fault f)) h r fits same = absurd (h.none r fits same)
only_report text (Err refused.NoMemory) h r fits same = refl
