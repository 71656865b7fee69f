-- Each draft is the front of some report.
use Rattle.std.proofs.Common.{◌≡◌, ℕ, ◌+◌, ◌*◌, ◌<◌, ◌≤◌, Bool, true, List, [], ◌∷◌, ◌++◌, length, sum, replicate, refl, sym, ap, ◌∙◌, arith, append_assoc, append-nil}
use Rattle.std.specs.Prelude.{codes}
use Rattle.std.proofs.lemmas.List.{length-replicate}
use Rattle.std.proofs.lemmas.List.Folds.{sum_by-replicate}
use Rattle.run_model.specs.Cut.{Cut}
use Rattle.log_lines.specs.Names.{Name}
use Rattle.log_lines.specs.Spelling.{ProcsFit, end_line}
use Rattle.event_log.specs.Before.{Line}
use Rattle.report_lines.specs.declared.kinds.WitnessText.{WitnessText}
use Rattle.report_lines.specs.Formula.{IsCanonical}
use Rattle.report_lines.specs.Spelling.{IsPositive, RunFits, WitnessTextFits}
use Rattle.report_lines.proofs.Formulas.{some_canonical}
use Rattle.report.specs.declared.report.SliceText.{SliceText}
use Rattle.report.specs.declared.report.Report.{Report}
use Rattle.report.specs.declared.draft.Draft.{Draft}
use Rattle.report.specs.declared.draft.Draft.TheVariants as draft
use Rattle.report.specs.Spelling.{IsWellFormed, slice_lines, lines_of_slice, witness_lines, lines_of_witnesses, head_lines, body_lines, report_lines}
use Rattle.report.specs.Machine.{begun, with_slice, walked, with_witness, IsBegun, IsGood}
use Rattle.report.specs.inside.Machine.{lines_of}
use Rattle.report.proofs.Kept.{begun_fits, slice_fits, witness_fits, sliced_lines, witness_behind}

-- ---- what may stand in a report

some_batch : IsPositive 1
some_batch = record { some = omega arith; small = omega arith }

some_names : ProcsFit (codes "P" ∷ [])
some_names = record { some = omega arith; few = omega arith; each = (refl, tt); distinct = refl }

-- no events
abbrev no_events : List Name → Cut
no_events procs = replicate (length procs) 0

no_events_fit : (procs : List Name) → ProcsFit procs → RunFits procs (no_events procs)
no_events_fit procs fits = record { procs = fits; lengths = record { width = length-replicate (length procs) 0; few = omega (arith, sum_by-replicate (λ (n : ℕ). n) (length procs) 0) } }

-- ---- the ends

pub record CanEnd (before : List Line) : Type 0 where
  pub report : Report
  pub fits : IsWellFormed report
  pub rest : List Line
  pub lines_are : report_lines report ≡ before ++ rest

-- a report of which the head is said
begun_ends : (before rest : List Line) (batch : ℕ) (procs : List Name) (lengths : Cut) (formula : List ℕ) (verdict : Bool) → IsPositive batch → RunFits procs lengths → IsCanonical formula
    → report_lines (begun batch procs lengths formula verdict) ≡ before ++ rest → CanEnd before
begun_ends before rest batch procs lengths formula verdict b r f lines =
    record { report = begun batch procs lengths formula verdict; fits = (begun_fits batch procs lengths formula verdict b r f).fits; rest = rest; lines_are = lines }

pub can_end : (d : Draft) → IsGood d → CanEnd (lines_of d)
can_end draft.Start good = begun_ends [] _ 1 (codes "P" ∷ []) (0 ∷ []) (codes "true") true some_batch (no_events_fit (codes "P" ∷ []) some_names) some_canonical refl
can_end draft.Titled good = begun_ends (lines_of draft.Titled) _ 1 (codes "P" ∷ []) (0 ∷ []) (codes "true") true some_batch (no_events_fit (codes "P" ∷ []) some_names) some_canonical refl
can_end (draft.Numbered batch) good = begun_ends (lines_of (draft.Numbered batch)) _ batch (codes "P" ∷ []) (0 ∷ []) (codes "true") true good (no_events_fit (codes "P" ∷ []) some_names) some_canonical refl
can_end (draft.Named batch procs) good = begun_ends (lines_of (draft.Named batch procs)) _ batch procs (no_events procs) (codes "true") true good.0 (no_events_fit procs good.1) some_canonical refl
can_end (draft.Measured batch procs lengths) good = begun_ends (lines_of (draft.Measured batch procs lengths)) _ batch procs lengths (codes "true") true good.0 good.1 some_canonical refl
can_end (draft.Stated batch procs lengths formula) good = begun_ends (lines_of (draft.Stated batch procs lengths formula)) _ batch procs lengths formula true good.0 good.1 good.2 refl
can_end (draft.Judged r) good =
    let more = lines_of_slice r.procs r.slice ++ lines_of_witnesses r.procs r.witnesses in
    record { report = r; fits = good.fits; rest = more ++ end_line ∷ []; lines_are = append_assoc (head_lines r) more (end_line ∷ []) }
can_end (draft.Sliced r s) good =
    record { report = with_slice r s; fits = slice_fits r s good.0.fits good.1; rest = end_line ∷ []; lines_are = ap (λ (ls : List Line). ls ++ end_line ∷ []) (sliced_lines r s good.0) }
can_end (draft.Walked r w steps) good =
    record { report = with_witness r (walked w steps); fits = witness_fits r (walked w steps) good.0 good.1; rest = end_line ∷ []; lines_are = ap (λ (ls : List Line). ls ++ end_line ∷ []) (witness_behind r (walked w steps)) }
can_end (draft.Over r) good = record { report = r; fits = good; rest = []; lines_are = sym (append-nil (report_lines r)) }
