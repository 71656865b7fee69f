-- What the laws of this crate say.
use Rattle.std.specs.Prelude.{◌≡◌, ◌↔◌, List, Some}
use Rattle.run_model.specs.Cut.{Cut}
use Rattle.run_model.specs.Run.{Watches, clocks_of, run_of}
use Rattle.run_model.specs.Consistent.{IsOrder}
use Rattle.run_model.specs.Class.{IsKeptFor, Shown, IsOfClass}
use Rattle.run_model.specs.Slice.{DenotedBy}
use Rattle.run_report.specs.Reports.{text_seen, Asked, IsReportOf}
use Rattle.report.specs.declared.report.SliceText.{SliceText}
use Rattle.event_log.specs.declared.log.Event.{Event}
use Rattle.event_log.specs.declared.log.Header.{Header}
use Rattle.report.specs.declared.report.Report.{Report}
use Rattle.log_rules.specs.SoFar.{trace_so_far}

-- a report's slice denotes the consistent cuts that are shown
abbrev pub SlicesDenoteWhatIsShown : Type 0
SlicesDenoteWhatIsShown = (q : Asked) (h : Header) (batches : List (List Event)) (watches : Watches)
    → IsOrder (clocks_of (trace_so_far h batches))
    → IsKeptFor (run_of (trace_so_far h batches) watches) q.formula → (report : Report)
    → IsReportOf q h batches watches report → (text : SliceText) → report.slice ≡ Some text
    → (c : Cut) → Shown (run_of (trace_so_far h batches) watches) q.formula c
    ↔ DenotedBy (clocks_of (trace_so_far h batches)) (text_seen text) c

-- reports of one run differ in the batch alone
abbrev pub ReportsGoByTheRun : Type 0
ReportsGoByTheRun =
    (q : Asked) (h : Header) (batches others : List (List Event)) (watches : Watches)
    → IsOfClass q.formula → IsOrder (clocks_of (trace_so_far h batches))
    → IsKeptFor (run_of (trace_so_far h batches) watches) q.formula
    → trace_so_far h batches ≡ trace_so_far h others → (a b : Report)
    → IsReportOf q h batches watches a → IsReportOf q h others watches b
    → a ≡ record b { batch = a.batch }
