-- Reports: which of them are well formed, and the one text of each.
use Rattle.std.specs.Prelude.{◌≡◌, ℕ, List, [], ◌∷◌, ◌++◌, map, flat_map, Option, None, Some}
use Rattle.std.specs.Prelude.{IfSome}
use Rattle.std.specs.List.{AllByRecursion}
use Rattle.run_model.specs.Cut.{Cut}
use Rattle.log_lines.specs.Names.{Name}
use Rattle.log_lines.specs.Spelling.{procs_line, end_line}
use Rattle.event_log.specs.Before.{Line}
use Rattle.event_log.specs.LogText.{text_of}
use Rattle.report_lines.specs.declared.kinds.WitnessText.{WitnessText}
use Rattle.report_lines.specs.Formula.{IsCanonical}
use Rattle.report_lines.specs.Spelling.{title, batch_line, lengths_line, formula_line, verdict_line}
use Rattle.report_lines.specs.Spelling.{slice_line, edge_line, witness_line, step_line, IsPositive}
use Rattle.report_lines.specs.Spelling.{EdgeFits, BoundsFit, WitnessTextFits, RunFits}
use Rattle.report_lines.specs.Reading.{steps_of}
use Rattle.report.specs.declared.report.SliceText.{SliceText}
use Rattle.report.specs.declared.report.Report.{Report}

-- ---- which reports are well formed

-- an empty slice has no edges
pub record SliceFits (lengths : Cut) (s : SliceText) : Type 0 where
  pub bounds : BoundsFit lengths s.bounds
  pub edges : AllByRecursion (EdgeFits lengths) s.edges
  pub empty : s.bounds ≡ None → s.edges ≡ []

-- The batch is at least 1; the names of the processes are distinct, and there are 1 to 32; each
-- cut has one component a process; the lengths' sum is at most 50,000, and each other cut is
-- within them; each event is one of a process that is named, at a position from 1 to its length;
-- the numbers of a witness are at least 1; the formula's text is canonical.
pub record IsWellFormed (r : Report) : Type 0 where
  pub batch : IsPositive r.batch
  pub run : RunFits r.procs r.lengths
  pub formula : IsCanonical r.formula
  pub slice : IfSome r.slice (SliceFits r.lengths)
  pub witnesses : AllByRecursion (WitnessTextFits r.lengths) r.witnesses

-- ---- the text

-- a slice, or no line where none was asked for
abbrev pub slice_lines : List Name → SliceText → List Line
slice_lines procs s = slice_line s.bounds ∷ map (edge_line procs) s.edges

abbrev pub lines_of_slice : List Name → Option SliceText → List Line
lines_of_slice procs None = []
lines_of_slice procs (Some s) = slice_lines procs s

-- a witness, and behind it the steps of its path
abbrev pub witness_lines : List Name → WitnessText → List Line
witness_lines procs w = witness_line procs w ∷ map (step_line procs) (steps_of w.witness)

abbrev pub lines_of_witnesses : List Name → List WitnessText → List Line
lines_of_witnesses procs [] = []
lines_of_witnesses procs (w ∷ ws) = witness_lines procs w ++ lines_of_witnesses procs ws

-- the lines before slice and witnesses
abbrev pub head_lines : Report → List Line
head_lines r =
    title ∷ batch_line r.batch ∷ procs_line r.procs ∷ lengths_line r.lengths
    ∷ formula_line r.formula ∷ verdict_line r.verdict ∷ []

-- all lines but the last one
abbrev pub body_lines : Report → List Line
body_lines r =
    head_lines r ++ (lines_of_slice r.procs r.slice ++ lines_of_witnesses r.procs r.witnesses)

abbrev pub report_lines : Report → List Line
report_lines r = body_lines r ++ end_line ∷ []

-- each line and its line feed
abbrev pub report_text : Report → List ℕ
report_text r = text_of (report_lines r)
