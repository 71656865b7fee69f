-- Inside: the lines of reports one behind the other, as far as they have been read.
use Rattle.std.specs.Prelude.{List, [], ◌∷◌, ◌++◌, Option, Some}
use Rattle.pota_base.specs.Number.{◌>>=◌}
use Rattle.event_log.specs.Before.{Line}
use Rattle.report.specs.declared.draft.Draft.{Draft}
use Rattle.report.specs.declared.draft.Draft.TheVariants as draft
use Rattle.report.specs.declared.report.Report.{Report}
use Rattle.report.specs.Machine.{step}
use Rattle.report.specs.Spelling.{report_lines}

-- the lines of these reports
abbrev pub all_lines : List Report → List Line
all_lines [] = []
all_lines (r ∷ rs) = report_lines r ++ all_lines rs

-- behind a whole report another one begins
abbrev pub begun_anew : Draft → Draft
begun_anew draft.Start = draft.Start
begun_anew draft.Titled = draft.Titled
begun_anew (draft.Numbered batch) = draft.Numbered batch
begun_anew (draft.Named batch procs) = draft.Named batch procs
begun_anew (draft.Measured batch procs lengths) = draft.Measured batch procs lengths
begun_anew (draft.Stated batch procs lengths formula) = draft.Stated batch procs lengths formula
begun_anew (draft.Judged r) = draft.Judged r
begun_anew (draft.Sliced r s) = draft.Sliced r s
begun_anew (draft.Walked r w steps) = draft.Walked r w steps
begun_anew (draft.Over r) = draft.Start

unfoldable pub run_on : Draft → List Line → Option Draft
run_on d [] = Some d
run_on d (line ∷ lines) = step (begun_anew d) line >>= λ e. run_on e lines
