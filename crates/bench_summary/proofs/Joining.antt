-- The lines of a summary put together.
use Rattle.std.proofs.Common.{◌≡◌, ℕ, ◌+◌, Bool, List, [], ◌∷◌, ◌++◌, Option, refl, sym, ap, ◌∙◌, append_assoc}
use Rattle.std.specs.Prelude.{codes}
use Rattle.log_lines.specs.Spelling.{end_line}
use Rattle.event_log.specs.Before.{Line}
use Rattle.event_log.specs.LogText.{text_of}
use Rattle.event_log.proofs.Appends.{text_of-append}
use Rattle.report_lines.specs.Spelling.{formula_line, verdict_line}
use Rattle.report.specs.declared.report.Report.{Report}
use Rattle.call_options.specs.declared.sizes.Sizes.{Sizes}
use Rattle.run_report.specs.Benches.{number_line, slice_lines, summary_lines, summary_text}

-- one line more behind others
pub more_lines : (out middle new : List ℕ) (xs ys : List Line) → middle ≡ out ++ text_of xs → new ≡ middle ++ text_of ys → new ≡ out ++ text_of (xs ++ ys)
more_lines out middle new xs ys h k =
    k ∙ ap (λ (t : List ℕ). t ++ text_of ys) h ∙ append_assoc out (text_of xs) (text_of ys) ∙ ap (λ (t : List ℕ). out ++ t) (sym (text_of-append xs ys))

pub summary_put : (sizes : Sizes) (r : Report) (t1 t2 t3 t4 t5 t6 : List ℕ) → t1 ≡ text_of (codes "pota-bench 1" ∷ [])
    → t2 ≡ t1 ++ text_of (number_line (codes "seed ") sizes.seed ∷ number_line (codes "procs ") sizes.procs ∷ number_line (codes "events ") sizes.events ∷ number_line (codes "rows ") (sizes.events + 1) ∷ [])
    → t3 ≡ t2 ++ text_of (formula_line r.formula ∷ []) → t4 ≡ t3 ++ text_of (verdict_line r.verdict ∷ []) → t5 ≡ t4 ++ text_of (slice_lines r.slice) → t6 ≡ t5 ++ text_of (end_line ∷ [])
    → t6 ≡ summary_text sizes r
summary_put sizes r t1 t2 t3 t4 t5 t6 a b c d e f =
    let head = codes "pota-bench 1" ∷ [] in
    let numbers = number_line (codes "seed ") sizes.seed ∷ number_line (codes "procs ") sizes.procs ∷ number_line (codes "events ") sizes.events ∷ number_line (codes "rows ") (sizes.events + 1) ∷ [] in
    let with_numbers = more_lines [] t1 t2 head numbers a b in
    let with_formula = more_lines [] t2 t3 (head ++ numbers) (formula_line r.formula ∷ []) with_numbers c in
    let with_verdict = more_lines [] t3 t4 (head ++ numbers ++ formula_line r.formula ∷ []) (verdict_line r.verdict ∷ []) with_formula d in
    let with_slice = more_lines t4 t5 t6 (slice_lines r.slice) (end_line ∷ []) e f in
    with_slice ∙ ap (λ (t : List ℕ). t ++ text_of (slice_lines r.slice ++ end_line ∷ [])) with_verdict
    ∙ sym (text_of-append (head ++ numbers ++ formula_line r.formula ∷ [] ++ verdict_line r.verdict ∷ []) (slice_lines r.slice ++ end_line ∷ []))
