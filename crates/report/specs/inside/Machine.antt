-- Inside: a report as far as its lines have been read.
use Rattle.std.specs.Prelude.{◌≡◌, ℕ, List, [], ◌∷◌, ◌++◌, Option}
use Rattle.std.specs.Prelude.{Some}
use Rattle.pota_base.specs.Number.{◌>>=◌}
use Rattle.log_lines.specs.Spelling.{procs_line}
use Rattle.event_log.specs.Before.{Line}
use Rattle.report_lines.specs.Spelling.{title, batch_line, lengths_line, formula_line}
use Rattle.report.specs.declared.report.Report.{Report}
use Rattle.report.specs.declared.draft.Draft.{Draft}
use Rattle.report.specs.declared.draft.Draft.TheVariants as draft
use Rattle.report.specs.Spelling.{slice_lines, witness_lines, head_lines}
use Rattle.report.specs.Spelling.{body_lines, report_lines}
use Rattle.report.specs.Machine.{step, walked}

unfoldable pub run : Draft → List Line → Option Draft
run d [] = Some d
run d (line ∷ lines) = step d line >>= λ e. run e lines

abbrev pub lines_of : Draft → List Line
lines_of draft.Start = []
lines_of draft.Titled = title ∷ []
lines_of (draft.Numbered batch) = title ∷ batch_line batch ∷ []
lines_of (draft.Named batch procs) = title ∷ batch_line batch ∷ procs_line procs ∷ []
lines_of (draft.Measured batch procs lengths) =
    title ∷ batch_line batch ∷ procs_line procs ∷ lengths_line lengths ∷ []
lines_of (draft.Stated batch procs lengths formula) =
    title ∷ batch_line batch ∷ procs_line procs ∷ lengths_line lengths ∷ formula_line formula ∷ []
lines_of (draft.Judged r) = head_lines r
lines_of (draft.Sliced r s) = head_lines r ++ slice_lines r.procs s
lines_of (draft.Walked r w steps) = body_lines r ++ witness_lines r.procs (walked w steps)
lines_of (draft.Over r) = report_lines r

-- the draft lacks its last line, or something is left behind it
abbrev pub IsUnfinished : Draft → List ℕ → Type 0
IsUnfinished d rest = (r : Report) → d ≡ draft.Over r → rest ≡ [] → ⊥
