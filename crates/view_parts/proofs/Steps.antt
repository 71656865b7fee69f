-- What the reading of lines answers.
use Rattle.std.proofs.Common.{◌≡◌, ℕ, None, Result, Ok, Err, List, [], ◌∷◌, ◌++◌, refl, sym, subst}
use Rattle.std.specs.Prelude.{IfOk, IfErr, MatchResult}
use Rattle.pota_base.specs.declared.fault.Refused.{Refused}
use Rattle.pota_base.specs.declared.fault.Refused.TheVariants as refused
use Rattle.event_log.specs.Moments.{HasNoFeed}
use Rattle.report.specs.declared.report.Report.{Report}
use Rattle.report.specs.declared.report.ReportFault.{ReportFault}
use Rattle.report.specs.declared.draft.Draft.{Draft}
use Rattle.report.specs.declared.draft.Draft.TheVariants as draft
use Rattle.report.specs.Fault.{Faults}
use Rattle.report.specs.Machine.{step}
use Rattle.report.specs.inside.Machine.{IsUnfinished}
use Rattle.view_parts.specs.Series.{IsLastOf, IsFaultInAll}
use Rattle.view_parts.specs.inside.Machine.{begun_anew}
use Rattle.view_parts.proofs.Faults.{AreTakenOn, refused_line, cut_short, whole_reports, one_last}

pub line_refused : (text rest front after : List ℕ) (line : ℕ) (d : Draft) (e : Refused ReportFault) → AreTakenOn text rest line d → HasNoFeed front → rest ≡ front ++ 10 ∷ after
    → Faults e (λ f. (f.line ≡ line) × (step (begun_anew d) front ≡ None)) → Faults e (λ f. IsFaultInAll text f.line)
line_refused text rest front after line d (refused.Fault f) t plain split h = subst (IsFaultInAll text) (sym h.0) (refused_line text rest line d t front after plain split h.1)
line_refused text rest front after line d refused.NoMemory t plain split h = tt

pub lines_over : (text rest : List ℕ) (line : ℕ) (d : Draft) (result : Result Report (Refused ReportFault)) → AreTakenOn text rest line d → HasNoFeed rest
    → IfOk result (λ r. (d ≡ draft.Over r) × (rest ≡ [])) → IfErr result (λ e. Faults e (λ f. (f.line ≡ line) × IsUnfinished d rest)) → MatchResult result (IsLastOf text) (λ e. Faults e (λ f. IsFaultInAll text f.line))
lines_over text rest line d (Ok r) t plain read fault = whole_reports text rest line d r t read.0 read.1
lines_over text rest line d (Err (refused.Fault f)) t plain read fault = subst (IsFaultInAll text) (sym fault.0) (cut_short text rest line d t plain fault.1)
lines_over text rest line d (Err refused.NoMemory) t plain read fault = tt

pub only_last : (text : List ℕ) (result : Result Report (Refused ReportFault)) → MatchResult result (IsLastOf text) (λ e. Faults e (λ f. IsFaultInAll text f.line)) → (r : Report) → IsLastOf text r
    → MatchResult result (λ q. q ≡ r) (λ e. e ≡ refused.NoMemory)
only_last text (Ok q) h r is = one_last text q r h is
only_last text (Err (refused.Fault f)) h r is = absurd (h.none r is)
only_last text (Err refused.NoMemory) h r is = refl
