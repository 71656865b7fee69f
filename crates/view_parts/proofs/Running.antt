-- The lines of reports one behind the other are taken.
use Rattle.std.proofs.Common.{◌≡◌, ℕ, Some, List, [], ◌∷◌, ◌++◌, refl, sym, ap, subst, ◌∙◌, append_assoc, append-nil}
use Rattle.std.specs.List.{AllByRecursion}
use Rattle.std.proofs.lemmas.Option.{same_Some}
use Rattle.pota_base.specs.Number.{◌>>=◌}
use Rattle.log_lines.proofs.WordLaws.{bind_some}
use Rattle.event_log.specs.Before.{Line}
use Rattle.event_log.specs.LogText.{text_of}
use Rattle.event_log.specs.Moments.{HasNoFeed}
use Rattle.event_log.proofs.Appends.{text_of-append}
use Rattle.event_log.proofs.Lists.{all_append, all_push}
use Rattle.report_lines.specs.Spelling.{title}
use Rattle.report.specs.declared.report.Report.{Report}
use Rattle.report.specs.declared.draft.Draft.{Draft}
use Rattle.report.specs.declared.draft.Draft.TheVariants as draft
use Rattle.report.specs.Spelling.{IsWellFormed, report_lines, report_text}
use Rattle.report.specs.Machine.{step, IsGood}
use Rattle.report.specs.inside.Machine.{run, lines_of}
use Rattle.report.proofs.Kept.{step_kept}
use Rattle.report.proofs.Taken.{report_run}
use Rattle.report.proofs.FaultLaws.{report_plain}
use Rattle.report.proofs.TextLines.{ArePlain}
use Rattle.view_parts.specs.Series.{texts_of}
use Rattle.view_parts.specs.inside.Machine.{all_lines, begun_anew, run_on}

-- ---- lists of reports

pub text_of_all : (rs : List Report) → text_of (all_lines rs) ≡ texts_of rs
text_of_all [] = refl
text_of_all (r ∷ rs) = text_of-append (report_lines r) (all_lines rs) ∙ ap (λ (t : List ℕ). report_text r ++ t) (text_of_all rs)

pub lines_push : (rs : List Report) (r : Report) → all_lines (rs ++ r ∷ []) ≡ all_lines rs ++ report_lines r
lines_push [] r = append-nil (report_lines r)
lines_push (q ∷ rs) r = ap (λ (ls : List Line). report_lines q ++ ls) (lines_push rs r) ∙ sym (append_assoc (report_lines q) (all_lines rs) (report_lines r))

pub texts_push : (rs : List Report) (r : Report) → texts_of (rs ++ r ∷ []) ≡ texts_of rs ++ report_text r
texts_push [] r = append-nil (report_text r)
texts_push (q ∷ rs) r = ap (λ (t : List ℕ). report_text q ++ t) (texts_push rs r) ∙ sym (append_assoc (report_text q) (texts_of rs) (report_text r))

pub all_plain : (rs : List Report) → AllByRecursion IsWellFormed rs → ArePlain (all_lines rs)
all_plain [] each = tt
all_plain (r ∷ rs) each = all_append HasNoFeed (report_lines r) (all_lines rs) (report_plain r each.0) (all_plain rs each.1)

-- ---- one list of lines behind another

pub run_on_then : (d : Draft) (xs ys : List Line) (e : Draft) → run_on d xs ≡ Some e → run_on d (xs ++ ys) ≡ run_on e ys
unfolding run_on
run_on_then d [] ys e h = ap (λ (f : Draft). run_on f ys) (same_Some _ _ h)
run_on_then d (x ∷ xs) ys e h =
    let b = bind_some (step (begun_anew d) x) _ e h in
    rw b.1 (run_on_then b.0 xs ys e b.2)

-- ---- what is read of one report is read of several

-- no line comes behind a whole report
goes_on : (d : Draft) (line : Line) (e : Draft) → step d line ≡ Some e → begun_anew d ≡ d
unfolding step
goes_on draft.Start line e h = refl
goes_on draft.Titled line e h = refl
goes_on (draft.Numbered batch) line e h = refl
goes_on (draft.Named batch procs) line e h = refl
goes_on (draft.Measured batch procs lengths) line e h = refl
goes_on (draft.Stated batch procs lengths formula) line e h = refl
goes_on (draft.Judged r) line e h = refl
goes_on (draft.Sliced r s) line e h = refl
goes_on (draft.Walked r w steps) line e h = refl
goes_on (draft.Over r) line e h = absurd cc

runs_on : (d : Draft) (lines : List Line) (e : Draft) → run d lines ≡ Some e → run_on d lines ≡ Some e
unfolding run run_on
runs_on d [] e h = h
runs_on d (line ∷ lines) e h =
    let b = bind_some (step d line) _ e h in
    ap (λ (f : Draft). step f line >>= λ g. run_on g lines) (goes_on d line b.0 b.1) ∙ rw b.1 (runs_on b.0 lines e b.2)

-- a report behind what a report may begin behind
from_anew : (d : Draft) (line : Line) (lines : List Line) → begun_anew d ≡ draft.Start → run_on d (line ∷ lines) ≡ run_on draft.Start (line ∷ lines)
unfolding run_on
from_anew d line lines anew = ap (λ (f : Draft). step f line >>= λ g. run_on g lines) anew

one_run : (d : Draft) (r : Report) → begun_anew d ≡ draft.Start → IsWellFormed r → run_on d (report_lines r) ≡ Some (draft.Over r)
one_run d r anew fits = from_anew d title _ anew ∙ runs_on draft.Start (report_lines r) (draft.Over r) (report_run r fits)

pub several_run : (rs : List Report) (d : Draft) → begun_anew d ≡ draft.Start → AllByRecursion IsWellFormed rs → (e : Draft) × (run_on d (all_lines rs) ≡ Some e) × (begun_anew e ≡ draft.Start)
unfolding run_on
several_run [] d anew each = (d, refl, anew)
several_run (r ∷ rs) d anew each =
    let more = several_run rs (draft.Over r) refl each.1 in
    (more.0, run_on_then d (report_lines r) (all_lines rs) (draft.Over r) (one_run d r anew each.0) ∙ more.1, more.2)

-- and the last of them is told
pub last_run : (rs : List Report) (r : Report) → AllByRecursion IsWellFormed rs → IsWellFormed r → run_on draft.Start (all_lines rs ++ report_lines r) ≡ Some (draft.Over r)
last_run rs r each fits =
    let front = several_run rs draft.Start refl each in
    run_on_then draft.Start (all_lines rs) (report_lines r) front.0 front.1 ∙ one_run front.0 r front.2 fits

-- ---- what the lines are that were taken

pub record IsReachedOn (lines : List Line) (d : Draft) : Type 0 where
  pub before : List Report
  pub each : AllByRecursion IsWellFormed before
  pub good : IsGood d
  pub lines_are : lines ≡ all_lines before ++ lines_of d

-- another report begins behind a whole one
begins_anew : (rs : List Report) → AllByRecursion IsWellFormed rs → (d : Draft) → IsGood d → IsReachedOn (all_lines rs ++ lines_of d) (begun_anew d)
begins_anew rs each draft.Start good = record { before = rs; each = each; good = good; lines_are = refl }
begins_anew rs each draft.Titled good = record { before = rs; each = each; good = good; lines_are = refl }
begins_anew rs each (draft.Numbered batch) good = record { before = rs; each = each; good = good; lines_are = refl }
begins_anew rs each (draft.Named batch procs) good = record { before = rs; each = each; good = good; lines_are = refl }
begins_anew rs each (draft.Measured batch procs lengths) good = record { before = rs; each = each; good = good; lines_are = refl }
begins_anew rs each (draft.Stated batch procs lengths formula) good = record { before = rs; each = each; good = good; lines_are = refl }
begins_anew rs each (draft.Judged r) good = record { before = rs; each = each; good = good; lines_are = refl }
begins_anew rs each (draft.Sliced r s) good = record { before = rs; each = each; good = good; lines_are = refl }
begins_anew rs each (draft.Walked r w steps) good = record { before = rs; each = each; good = good; lines_are = refl }
begins_anew rs each (draft.Over r) good =
    record { before = rs ++ r ∷ []; each = all_push IsWellFormed rs r each good; good = tt; lines_are = sym (append-nil (all_lines (rs ++ r ∷ [])) ∙ lines_push rs r) }

-- a draft is good, and so is what is begun behind it
pub anew_good : (d : Draft) → IsGood d → IsGood (begun_anew d)
anew_good d good = (begins_anew [] tt d good).good

pub reached_on : (rs : List Report) → AllByRecursion IsWellFormed rs → (d : Draft) → IsGood d → (lines : List Line) (e : Draft) → run_on d lines ≡ Some e → IsReachedOn ((all_lines rs ++ lines_of d) ++ lines) e
unfolding run_on
reached_on rs each d good [] e h =
    subst (IsReachedOn ((all_lines rs ++ lines_of d) ++ [])) (same_Some _ _ h) (record { before = rs; each = each; good = good; lines_are = append-nil (all_lines rs ++ lines_of d) })
reached_on rs each d good (line ∷ lines) e h =
    let b = bind_some (step (begun_anew d) line) _ e h in
    let s = begins_anew rs each d good in
    let kept = step_kept (begun_anew d) line b.0 s.good b.1 in
    let more = reached_on s.before s.each b.0 kept.good lines e b.2 in
    let old = all_lines s.before in
    let same : (all_lines rs ++ lines_of d) ++ line ∷ lines ≡ (old ++ lines_of b.0) ++ lines =
    ap (λ (ls : List Line). ls ++ line ∷ lines) s.lines_are ∙ sym (append_assoc (old ++ lines_of (begun_anew d)) (line ∷ []) lines)
    ∙ ap (λ (ls : List Line). ls ++ lines) (append_assoc old (lines_of (begun_anew d)) (line ∷ []) ∙ ap (λ (ls : List Line). old ++ ls) (sym kept.lines_are)) in
    subst (λ (ls : List Line). IsReachedOn ls e) (sym same) more
