-- What the report of a run says after some of its batches.
use Rattle.std.specs.Prelude.{◌≡◌, ℕ, ◌↔◌, Bool, true, false, List, [], map, Option}
use Rattle.std.specs.Prelude.{Some, None}
use Rattle.run_model.specs.Cut.{lengths, initial}
use Rattle.run_model.specs.Run.{Run, Trace, Watches, run_of, clocks_of}
use Rattle.run_model.specs.Formula.{Formula}
use Rattle.run_model.specs.Meaning.{Sat}
use Rattle.run_model.specs.Class.{Shown}
use Rattle.run_model.specs.Slice.{IsTextOf}
use Rattle.run_model.specs.Slice as model
use Rattle.event_log.specs.declared.log.Event.{Event}
use Rattle.event_log.specs.declared.log.Header.{Header}
use Rattle.report.specs.PassedOn.{edge_of}
use Rattle.report.specs.declared.report.Report.{Report}
use Rattle.report.specs.declared.report.SliceText.{SliceText}
use Rattle.log_rules.specs.SoFar.{trace_so_far, counted}
use Rattle.run_report.specs.Witnesses.{AreWitnesses}

-- what a report is asked for: a formula with its canonical text, and whether slice and witnesses
-- are shown
pub record Asked : Type 0 where
  pub formula : Formula
  pub text : List ℕ
  pub slice : Bool
  pub witness : Bool

-- the text of a slice as the model of runs sees it
abbrev pub text_seen : SliceText → model.SliceText
text_seen text = record { bounds = text.bounds; edges = map edge_of text.edges }

-- the slice is there exactly where it is asked for, and is that of the set that is shown
abbrev pub IsSliceShown : Bool → Run → Formula → Option SliceText → Type 0
IsSliceShown true r f (Some text) = IsTextOf r.clocks (Shown r f) (text_seen text)
IsSliceShown true r f None = ⊥
IsSliceShown false r f slice = slice ≡ None

-- the report of a run after its batch number `batch`
pub record IsReportOn (q : Asked) (batch : ℕ) (trace : Trace) (watches : Watches) (report : Report)
    : Type 0 where
  pub number : report.batch ≡ batch
  pub lengths_are : report.lengths ≡ lengths (clocks_of trace)
  pub formula : report.formula ≡ q.text
  -- the truth at the initial cut
  pub verdict : (report.verdict ≡ true)
      ↔ Sat (run_of trace watches) q.formula (initial (clocks_of trace))
  pub slice : IsSliceShown q.slice (run_of trace watches) q.formula report.slice
  pub witnesses : q.witness ≡ true
      → AreWitnesses (run_of trace watches) q.formula report.verdict report.witnesses
  pub unasked : q.witness ≡ false → report.witnesses ≡ []

-- the report on a log's header and the batches so far
pub record IsReportOf (q : Asked) (h : Header) (batches : List (List Event)) (watches : Watches)
    (report : Report) : Type 0 where
  pub names : report.procs ≡ h.procs
  pub says : IsReportOn q (counted batches) (trace_so_far h batches) watches report
