-- The summary of a bench: how large the log is that was made, and what the report on it says.
use Rattle.std.specs.Prelude.{◌≡◌, ℕ, ◌+◌, true, false, List, [], ◌∷◌, ◌++◌, length, Option, None}
use Rattle.std.specs.Prelude.{Some, codes}
use Rattle.std.specs.Fmt.{decimal}
use Rattle.run_model.specs.Run.{Watches}
use Rattle.log_lines.specs.Spelling.{end_line}
use Rattle.event_log.specs.Before.{Line}
use Rattle.event_log.specs.LogText.{text_of}
use Rattle.event_log.specs.declared.log.Event.{Event}
use Rattle.event_log.specs.declared.log.Header.{Header}
use Rattle.call_options.specs.declared.sizes.Sizes.{Sizes}
use Rattle.report.specs.PassedOn.{formula_line, verdict_line, slice_line}
use Rattle.report.specs.declared.report.Report.{Report}
use Rattle.report.specs.declared.report.SliceText.{SliceText}
use Rattle.run_report.specs.Reports.{Asked, IsReportOf}

abbrev pub number_line : List ℕ → ℕ → Line
number_line word n = word ++ decimal n

-- the bottom and the top of the slice, and how many edges it has
abbrev pub slice_lines : Option SliceText → List Line
slice_lines None = []
slice_lines (Some s) =
    slice_line s.bounds ∷ number_line (codes "edges ") (length s.edges) ∷ []

-- the lines for a log of these sizes, where an event's row and the bottom's are counted
abbrev pub summary_lines : Sizes → Report → List Line
summary_lines sizes r =
    codes "pota-bench 1" ∷ number_line (codes "seed ") sizes.seed
    ∷ number_line (codes "procs ") sizes.procs ∷ number_line (codes "events ") sizes.events
    ∷ number_line (codes "rows ") (sizes.events + 1) ∷ formula_line r.formula
    ∷ verdict_line r.verdict ∷ (slice_lines r.slice ++ end_line ∷ [])

abbrev pub summary_text : Sizes → Report → List ℕ
summary_text sizes r = text_of (summary_lines sizes r)

-- a bench tells the verdict and the slice
abbrev pub benched : Asked → Asked
benched q = record q { slice = true; witness = false }

-- the text is the summary of a bench on the log of this header and these batches
pub record IsSummaryOf (sizes : Sizes) (q : Asked) (h : Header) (batches : List (List Event))
    (watches : Watches) (text : List ℕ) : Type 0 where
  pub report : Report
  pub says : IsReportOf (benched q) h batches watches report
  pub text_is : text ≡ summary_text sizes report
