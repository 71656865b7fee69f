-- The lines of a list with one more behind it, and the parts of a report put together.
use Rattle.std.proofs.Common.{◌≡◌, ℕ, ◌+◌, ◌<◌, ◌≤◌, Option, Some, None, List, [], ◌∷◌, ◌++◌, length, map, refl, sym, ap, ◌∙◌, arith, append_assoc, append-nil}
use Rattle.std.specs.Prelude.{IfSome}
use Rattle.std.specs.List.{AllByRecursion}
use Rattle.std.proofs.lemmas.List.{map-append}
use Rattle.run_model.specs.Cut.{Cut}
use Rattle.pota_base.specs.declared.shape.EventId.{EventId}
use Rattle.pota_base.specs.Shape.{HasEvent}
use Rattle.log_lines.specs.Names.{Name}
use Rattle.log_lines.specs.Spelling.{end_line}
use Rattle.event_log.specs.Before.{Line}
use Rattle.event_log.specs.LogText.{text_of}
use Rattle.event_log.proofs.Appends.{text_of-append}
use Rattle.witness_kinds.specs.declared.Witness.{Witness}
use Rattle.witness_kinds.specs.declared.Witness.TheVariants as witness
use Rattle.report_lines.specs.PassedOn.{Edge}
use Rattle.report_lines.specs.declared.kinds.WitnessText.{WitnessText}
use Rattle.report_lines.specs.Spelling.{edge_line, step_line, EdgeFits, WitnessFits, WitnessTextFits, RunFits, IsNamed}
use Rattle.report_lines.specs.Reading.{steps_of}
use Rattle.report_lines.proofs.PartLaws.{process_there}
use Rattle.report.specs.declared.report.SliceText.{SliceText}
use Rattle.report.specs.declared.report.Report.{Report}
use Rattle.report.specs.Spelling.{SliceFits, lines_of_slice, witness_lines, lines_of_witnesses, head_lines, report_text}
use Rattle.report.specs.inside.Writing.{IsOf, Joins, IsTold}

-- ---- spellings of lists

pub mapped_append : {A : Type 0} (spell : A → Line) (xs ys : List A) → text_of (map spell (xs ++ ys)) ≡ text_of (map spell xs) ++ text_of (map spell ys)
mapped_append spell xs ys = ap text_of (map-append spell xs ys) ∙ text_of-append (map spell xs) (map spell ys)

witnesses-append : (procs : List Name) (xs ys : List WitnessText) → lines_of_witnesses procs (xs ++ ys) ≡ lines_of_witnesses procs xs ++ lines_of_witnesses procs ys
witnesses-append procs [] ys = refl
witnesses-append procs (x ∷ xs) ys = ap (λ (ls : List Line). witness_lines procs x ++ ls) (witnesses-append procs xs ys) ∙ sym (append_assoc (witness_lines procs x) (lines_of_witnesses procs xs) (lines_of_witnesses procs ys))

pub witnesses_append : (procs : List Name) (xs ys : List WitnessText) → text_of (lines_of_witnesses procs (xs ++ ys)) ≡ text_of (lines_of_witnesses procs xs) ++ text_of (lines_of_witnesses procs ys)
witnesses_append procs xs ys = ap text_of (witnesses-append procs xs ys) ∙ text_of-append (lines_of_witnesses procs xs) (lines_of_witnesses procs ys)

-- one witness, and what stands in front of it
pub one_witness : (procs : List Name) (w : WitnessText) → text_of (witness_lines procs w) ≡ text_of (lines_of_witnesses procs (w ∷ []))
one_witness procs w = ap text_of (sym (append-nil (witness_lines procs w)))

-- ---- what is well formed can be written

module _ (procs : List Name) (lengths : Cut) (run : RunFits procs lengths) where
  pub steps_named : (es : List EventId) → AllByRecursion (HasEvent lengths) es → AllByRecursion (IsOf procs) es
  steps_named [] fits = tt
  steps_named (e ∷ es) fits = (process_there procs lengths run e fits.0, steps_named es fits.1)

  pub edges_named : (es : List Edge) → AllByRecursion (EdgeFits lengths) es → AllByRecursion (Joins procs) es
  edges_named [] fits = tt
  edges_named (e ∷ es) fits = ((process_there procs lengths run e.cause fits.0.cause, process_there procs lengths run e.effect fits.0.effect), edges_named es fits.1)

  kind_named : (w : Witness) → WitnessFits lengths w → IsNamed procs w × AllByRecursion (IsOf procs) (steps_of w)
  kind_named witness.Nothing fits = (tt, tt)
  kind_named (witness.Reach path) fits = (tt, steps_named path.steps fits.steps)
  kind_named (witness.Against path) fits = (tt, steps_named path.steps fits.steps)
  kind_named (witness.Always path) fits = (tt, steps_named path.steps fits.steps)
  kind_named witness.StuckStart fits = (tt, tt)
  kind_named witness.StuckFinish fits = (tt, tt)
  kind_named (witness.StuckPair first other) fits = ((process_there procs lengths run first fits.0, process_there procs lengths run other fits.1), tt)

  pub slice_named : (o : Option SliceText) → IfSome o (SliceFits lengths) → IfSome o (λ s. AllByRecursion (Joins procs) s.edges)
  slice_named None fits = tt
  slice_named (Some s) fits = edges_named s.edges fits.edges

  pub witnesses_named : (ws : List WitnessText) → AllByRecursion (WitnessTextFits lengths) ws → AllByRecursion (IsTold procs) ws
  witnesses_named [] fits = tt
  witnesses_named (w ∷ ws) fits = (kind_named w.witness fits.0.witness, witnesses_named ws fits.1)

-- ---- a report

pub report_put : (r : Report) (t1 t2 t3 t4 : List ℕ) → t1 ≡ text_of (head_lines r) → t2 ≡ t1 ++ text_of (lines_of_slice r.procs r.slice) → t3 ≡ t2 ++ text_of (lines_of_witnesses r.procs r.witnesses)
    → t4 ≡ t3 ++ text_of (end_line ∷ []) → t4 ≡ report_text r
report_put r t1 t2 t3 t4 a b c d =
    let head = head_lines r in
    let slices = lines_of_slice r.procs r.slice in
    let witnesses = lines_of_witnesses r.procs r.witnesses in
    let parts : text_of head ++ text_of slices ++ text_of witnesses ≡ text_of (head ++ (slices ++ witnesses)) =
    append_assoc (text_of head) (text_of slices) (text_of witnesses) ∙ ap (λ (t : List ℕ). text_of head ++ t) (sym (text_of-append slices witnesses)) ∙ sym (text_of-append head (slices ++ witnesses)) in
    d ∙ ap (λ (t : List ℕ). t ++ text_of (end_line ∷ [])) (c ∙ ap (λ (t : List ℕ). t ++ text_of witnesses) (b ∙ ap (λ (t : List ℕ). t ++ text_of slices) a) ∙ parts) ∙ sym (text_of-append (head ++ (slices ++ witnesses)) (end_line ∷ []))
