-- The reading of a report, line by line.
-- ---- parts of drafts
use Rattle.std.specs.Prelude.{◌≡◌, ℕ, Bool, List, [], ◌∷◌, ◌++◌, length, Option, None}
use Rattle.std.specs.Prelude.{Some, is_some, if◌then◌else◌}
use Rattle.std.specs.Str.{bytes_eq}
use Rattle.run_model.specs.Cut.{Cut}
use Rattle.pota_base.specs.declared.shape.EventId.{EventId}
use Rattle.pota_base.specs.Number.{◌>>=◌}
use Rattle.log_lines.specs.Names.{Name}
use Rattle.log_lines.specs.Spelling.{ProcsFit, end_line}
use Rattle.log_lines.specs.Reading.{choose, procs_in}
use Rattle.event_log.specs.Before.{Line}
use Rattle.report_lines.specs.PassedOn.{Edge}
use Rattle.report_lines.specs.declared.kinds.WitnessText.{WitnessText}
use Rattle.report_lines.specs.Formula.{IsCanonical}
use Rattle.report_lines.specs.Spelling.{IsPositive}
use Rattle.report_lines.specs.Spelling.{RunFits, WitnessTextFits}
use Rattle.report_lines.specs.Reading.{is_title, batch_in, lengths_in, formula_in, verdict_in}
use Rattle.report_lines.specs.Reading.{slice_in, edge_in, step_in, witness_in, has_path, with_steps}
use Rattle.report.specs.declared.report.SliceText.{SliceText}
use Rattle.report.specs.declared.report.Report.{Report}
use Rattle.report.specs.declared.draft.Draft.{Draft}
use Rattle.report.specs.declared.draft.Draft.TheVariants as draft
use Rattle.report.specs.Spelling.{IsWellFormed, SliceFits}

-- a report that has its first lines alone
abbrev pub begun : ℕ → List Name → Cut → List ℕ → Bool → Report
begun batch procs lengths formula verdict =
    record {
      batch = batch;
      procs = procs;
      lengths = lengths;
      formula = formula;
      verdict = verdict;
      slice = None;
      witnesses = [];
    }

abbrev pub with_slice : Report → SliceText → Report
with_slice r s = record r { slice = Some s }

abbrev pub with_edge : SliceText → Edge → SliceText
with_edge s e = record s { edges = s.edges ++ e ∷ [] }

-- the witness with the steps of its path
abbrev pub walked : WitnessText → List EventId → WitnessText
walked w steps = record w { witness = with_steps w.witness steps }

abbrev pub with_witness : Report → WitnessText → Report
with_witness r w = record r { witnesses = r.witnesses ++ w ∷ [] }

-- ---- what one line more makes of a draft

-- the next edge of a slice that isn't empty
abbrev pub next_edge : Report → SliceText → Line → Option Edge
next_edge r s line = if is_some s.bounds then edge_in r.procs r.lengths line else None

-- the next step of a witness with a path
abbrev pub next_step : Report → WitnessText → Line → Option EventId
next_step r w line = if has_path w.witness then step_in r.procs r.lengths line else None

-- a witness may come, or the end
abbrev pub body_step : Report → Line → Option Draft
body_step r line =
    choose (witness_in r.procs r.lengths line) (λ w. Some (draft.Walked r w []))
    (if bytes_eq line end_line then Some (draft.Over r) else None)

unfoldable pub step : Draft → Line → Option Draft
step draft.Start line = if is_title line then Some draft.Titled else None
step draft.Titled line = batch_in line >>= λ batch. Some (draft.Numbered batch)
step (draft.Numbered batch) line = procs_in line >>= λ procs. Some (draft.Named batch procs)
step (draft.Named batch procs) line =
    lengths_in (length procs) line >>= λ lengths. Some (draft.Measured batch procs lengths)
step (draft.Measured batch procs lengths) line =
    formula_in line >>= λ formula. Some (draft.Stated batch procs lengths formula)
step (draft.Stated batch procs lengths formula) line =
    verdict_in line >>= λ verdict. Some (draft.Judged (begun batch procs lengths formula verdict))
step (draft.Judged r) line =
    choose (slice_in r.lengths line)
    (λ bounds. Some (draft.Sliced r (record { bounds = bounds; edges = [] }))) (body_step r line)
step (draft.Sliced r s) line =
    choose (next_edge r s line) (λ e. Some (draft.Sliced r (with_edge s e)))
    (body_step (with_slice r s) line)
step (draft.Walked r w steps) line =
    choose (next_step r w line) (λ e. Some (draft.Walked r w (steps ++ e ∷ [])))
    (body_step (with_witness r (walked w steps)) line)
step (draft.Over r) line = None

-- ---- what is known of a draft

-- a well-formed report without slice and witnesses
pub record IsBegun (r : Report) : Type 0 where
  pub fits : IsWellFormed r
  pub slice : r.slice ≡ None
  pub witnesses : r.witnesses ≡ []

abbrev pub IsGood : Draft → Type 0
IsGood draft.Start = Unit {0}
IsGood draft.Titled = Unit {0}
IsGood (draft.Numbered batch) = IsPositive batch
IsGood (draft.Named batch procs) = IsPositive batch × ProcsFit procs
IsGood (draft.Measured batch procs lengths) = IsPositive batch × RunFits procs lengths
IsGood (draft.Stated batch procs lengths formula) =
    IsPositive batch × RunFits procs lengths × IsCanonical formula
IsGood (draft.Judged r) = IsBegun r
IsGood (draft.Sliced r s) = IsBegun r × SliceFits r.lengths s
IsGood (draft.Walked r w steps) = IsWellFormed r × WitnessTextFits r.lengths (walked w steps)
IsGood (draft.Over r) = IsWellFormed r

-- ---- the lines of a draft
