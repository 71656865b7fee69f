-- The lines of a report are taken.
use Rattle.std.proofs.Common.{◌≡◌, ℕ, ◌+◌, ◌<◌, ◌≤◌, Bool, true, false, Option, Some, None, List, [], ◌∷◌, ◌++◌, length, map, refl, sym, ap, subst, ◌∙◌, arith, inl, inr, append_assoc, append-nil}
use Rattle.std.specs.Prelude.{is_some, if◌then◌else◌, IfSome}
use Rattle.std.specs.List.{AllByRecursion}
use Rattle.std.proofs.lemmas.Option.{same_Some}
use Rattle.run_model.specs.Cut.{Cut}
use Rattle.pota_base.specs.declared.shape.EventId.{EventId}
use Rattle.pota_base.specs.Shape.{HasEvent}
use Rattle.pota_base.specs.Number.{◌>>=◌}
use Rattle.log_lines.specs.Names.{Name}
use Rattle.log_lines.specs.Spelling.{end_line}
use Rattle.log_lines.specs.Reading.{text_at}
use Rattle.log_lines.proofs.WordLaws.{bind_some}
use Rattle.log_lines.proofs.LineLaws.{procs_again}
use Rattle.event_log.specs.Before.{Line}
use Rattle.witness_kinds.specs.declared.Witness.{Witness}
use Rattle.witness_kinds.specs.declared.Witness.TheVariants as witness
use Rattle.report_lines.specs.PassedOn.{Edge}
use Rattle.report_lines.specs.declared.kinds.WitnessText.{WitnessText}
use Rattle.report_lines.specs.Spelling.{slice_line, edge_line, witness_line, step_line, EdgeFits, BoundsFit, WitnessTextFits, RunFits}
use Rattle.report_lines.specs.Reading.{slice_in, edge_in, step_in, witness_in, has_path, steps_of, with_steps, numbers_at}
use Rattle.report_lines.proofs.LineLaws.{batch_again, lengths_again, formula_again, verdict_again, slice_again, edge_again, step_again}
use Rattle.report_lines.proofs.WitnessLaws.{witness_again}
use Rattle.report.specs.declared.report.SliceText.{SliceText}
use Rattle.report.specs.declared.report.Report.{Report}
use Rattle.report.specs.declared.draft.Draft.{Draft}
use Rattle.report.specs.declared.draft.Draft.TheVariants as draft
use Rattle.report.specs.Spelling.{IsWellFormed, SliceFits, slice_lines, lines_of_slice, witness_lines, lines_of_witnesses, head_lines, body_lines, report_lines}
use Rattle.report.specs.Machine.{begun, with_slice, with_edge, walked, with_witness, next_edge}
use Rattle.report.specs.Machine.{next_step, body_step, step}
use Rattle.report.specs.inside.Machine.{run}

-- ---- one list of lines behind another

pub run_then : (d : Draft) (xs ys : List Line) (e : Draft) → run d xs ≡ Some e → run d (xs ++ ys) ≡ run e ys
unfolding run
run_then d [] ys e h = ap (λ (f : Draft). run f ys) (same_Some _ _ h)
run_then d (x ∷ xs) ys e h =
    let b = bind_some (step d x) _ e h in
    rw b.1 (run_then b.0 xs ys e b.2)

pub record IsSplit (d : Draft) (xs ys : List Line) (e : Draft) : Type 0 where
  pub middle : Draft
  pub first : run d xs ≡ Some middle
  pub second : run middle ys ≡ Some e

pub run_split : (d : Draft) (xs ys : List Line) (e : Draft) → run d (xs ++ ys) ≡ Some e → IsSplit d xs ys e
unfolding run
run_split d [] ys e h = record { middle = d; first = refl; second = h }
run_split d (x ∷ xs) ys e h =
    let b = bind_some (step d x) _ e h in
    let s = run_split b.0 xs ys e b.2 in
    record { middle = s.middle; first = ap (λ (o : Option Draft). o >>= λ f. run f xs) b.1 ∙ s.first; second = s.second }

-- ---- drafts that differ from a closed one in what may still come

-- the line is none of a slice, an edge or a step
record IsOther (r : Report) (line : Line) : Type 0 where
  slice : slice_in r.lengths line ≡ None
  edge : edge_in r.procs r.lengths line ≡ None
  walk : step_in r.procs r.lengths line ≡ None

abbrev IsAtBody : Draft → Report → Type 0
IsAtBody d r = (line : Line) → IsOther r line → step d line ≡ body_step r line

if_none : {A : Type 0} (test : Bool) (o : Option A) → o ≡ None → (if test then o else None) ≡ None
if_none true o h = h
if_none false o h = refl

at_judged : (r : Report) → IsAtBody (draft.Judged r) r
unfolding step
at_judged r line other = rw other.slice refl

at_sliced : (r : Report) (s : SliceText) → IsAtBody (draft.Sliced r s) (with_slice r s)
unfolding step
at_sliced r s line other = rw (if_none (is_some s.bounds) (edge_in r.procs r.lengths line) other.edge) refl

at_walked : (r : Report) (w : WitnessText) (steps : List EventId) → IsAtBody (draft.Walked r w steps) (with_witness r (walked w steps))
unfolding step
at_walked r w steps line other = rw (if_none (has_path w.witness) (step_in r.procs r.lengths line) other.walk) refl

other_witness : (r : Report) (w : WitnessText) → IsOther r (witness_line r.procs w)
unfolding slice_in edge_in step_in text_at
other_witness r w = record { slice = refl; edge = refl; walk = refl }

other_end : (r : Report) → IsOther r end_line
unfolding slice_in edge_in step_in text_at
other_end r = record { slice = refl; edge = refl; walk = refl }

end_taken : (r : Report) → body_step r end_line ≡ Some (draft.Over r)
unfolding witness_in numbers_at text_at
end_taken r = refl

-- ---- the parts of a report

head_run : (r : Report) → IsWellFormed r → run draft.Start (head_lines r) ≡ Some (draft.Judged (begun r.batch r.procs r.lengths r.formula r.verdict))
unfolding run step
head_run r fits =
    rw (batch_again r.batch fits.batch, procs_again r.procs fits.run.procs, lengths_again r.procs r.lengths fits.run.procs.some fits.run.lengths, formula_again r.formula fits.formula, verdict_again r.verdict) refl

edges_run : (r : Report) (s : SliceText) (more : List Edge) → RunFits r.procs r.lengths → is_some s.bounds ≡ true → AllByRecursion (EdgeFits r.lengths) more
    → run (draft.Sliced r s) (map (edge_line r.procs) more) ≡ Some (draft.Sliced r (record { bounds = s.bounds; edges = s.edges ++ more }))
unfolding run step
edges_run r s [] fits bounded edges = ap (λ (es : List Edge). Some (draft.Sliced r (record { bounds = s.bounds; edges = es }))) (sym (append-nil s.edges))
edges_run r s (e ∷ more) fits bounded edges =
    rw (bounded, edge_again r.procs r.lengths fits e edges.0)
    (edges_run r (with_edge s e) more fits bounded edges.1 ∙ ap (λ (es : List Edge). Some (draft.Sliced r (record { bounds = s.bounds; edges = es }))) (append_assoc s.edges (e ∷ []) more))

record IsRunTo (d : Draft) (lines : List Line) (r : Report) : Type 0 where
  draft : Draft
  ran : run d lines ≡ Some draft
  at : IsAtBody draft r

slice_edges : (r : Report) (s : SliceText) → RunFits r.procs r.lengths → SliceFits r.lengths s → run (draft.Sliced r (record { bounds = s.bounds; edges = [] })) (map (edge_line r.procs) s.edges) ≡ Some (draft.Sliced r s)
unfolding run
slice_edges r s run_fits fits = go s.bounds refl
  where
    go : (b : Option (Cut × Cut)) → s.bounds ≡ b → run (draft.Sliced r (record { bounds = s.bounds; edges = [] })) (map (edge_line r.procs) s.edges) ≡ Some (draft.Sliced r s)
    go None none = rw (fits.empty none) refl
    go (Some b) some = edges_run r (record { bounds = s.bounds; edges = [] }) s.edges run_fits (ap is_some some) fits.edges

slice_run : (r : Report) (s : SliceText) → RunFits r.procs r.lengths → SliceFits r.lengths s → run (draft.Judged r) (slice_lines r.procs s) ≡ Some (draft.Sliced r s)
unfolding run step
slice_run r s run_fits fits = rw (slice_again r.procs r.lengths run_fits s.bounds fits.bounds) (slice_edges r s run_fits fits)

steps_run : (r : Report) (w : WitnessText) (steps more : List EventId) → RunFits r.procs r.lengths → has_path w.witness ≡ true → AllByRecursion (HasEvent r.lengths) more
    → run (draft.Walked r w steps) (map (step_line r.procs) more) ≡ Some (draft.Walked r w (steps ++ more))
unfolding run step
steps_run r w steps [] fits path there = ap (λ (es : List EventId). Some (draft.Walked r w es)) (sym (append-nil steps))
steps_run r w steps (e ∷ more) fits path there =
    rw (path, step_again r.procs r.lengths fits e there.0) (steps_run r w (steps ++ e ∷ []) more fits path there.1 ∙ ap (λ (es : List EventId). Some (draft.Walked r w es)) (append_assoc steps (e ∷ []) more))

-- the steps of a witness of this kind
kind_run : (r : Report) (d p : ℕ) (k : Witness) → RunFits r.procs r.lengths → WitnessTextFits r.lengths (record { disjunct = d; part = p; witness = k })
    → run (draft.Walked r (record { disjunct = d; part = p; witness = with_steps k [] }) []) (map (step_line r.procs) (steps_of k)) ≡ Some (draft.Walked r (record { disjunct = d; part = p; witness = with_steps k [] }) (steps_of k))
unfolding run
kind_run r d p witness.Nothing fits w = refl
kind_run r d p (witness.Reach path) fits w = steps_run r (record { disjunct = d; part = p; witness = with_steps (witness.Reach path) [] }) [] path.steps fits refl w.witness.steps
kind_run r d p (witness.Against path) fits w = steps_run r (record { disjunct = d; part = p; witness = with_steps (witness.Against path) [] }) [] path.steps fits refl w.witness.steps
kind_run r d p (witness.Always path) fits w = steps_run r (record { disjunct = d; part = p; witness = with_steps (witness.Always path) [] }) [] path.steps fits refl w.witness.steps
kind_run r d p witness.StuckStart fits w = refl
kind_run r d p witness.StuckFinish fits w = refl
kind_run r d p (witness.StuckPair first other) fits w = refl

steps_back : (k : Witness) → with_steps (with_steps k []) (steps_of k) ≡ k
steps_back witness.Nothing = refl
steps_back (witness.Reach path) = refl
steps_back (witness.Against path) = refl
steps_back (witness.Always path) = refl
steps_back witness.StuckStart = refl
steps_back witness.StuckFinish = refl
steps_back (witness.StuckPair first other) = refl

witness_run : (d : Draft) (r : Report) (w : WitnessText) → IsAtBody d r → RunFits r.procs r.lengths → WitnessTextFits r.lengths w → IsRunTo d (witness_lines r.procs w) (with_witness r w)
unfolding run
witness_run d r w at fits witness =
    let first : step d (witness_line r.procs w) ≡ Some (draft.Walked r (walked w []) []) = at (witness_line r.procs w) (other_witness r w) ∙ rw (witness_again r.procs r.lengths fits w witness) refl in
    let back : walked (walked w []) (steps_of w.witness) ≡ w = ap (λ (k : Witness). record { disjunct = w.disjunct; part = w.part; witness = k }) (steps_back w.witness) in
    record {
      draft = draft.Walked r (walked w []) (steps_of w.witness);
      ran = rw first (kind_run r w.disjunct w.part w.witness fits witness);
      at = subst (λ (v : WitnessText). IsAtBody (draft.Walked r (walked w []) (steps_of w.witness)) (with_witness r v)) back (at_walked r (walked w []) (steps_of w.witness));
    }

abbrev with_all : Report → List WitnessText → Report
with_all r ws = record r { witnesses = ws }

witnesses_run : (ws : List WitnessText) (d : Draft) (r : Report) → IsAtBody d r → RunFits r.procs r.lengths → AllByRecursion (WitnessTextFits r.lengths) ws → IsRunTo d (lines_of_witnesses r.procs ws) (with_all r (r.witnesses ++ ws))
unfolding run
witnesses_run [] d r at fits all = record { draft = d; ran = refl; at = subst (λ (ws : List WitnessText). IsAtBody d (with_all r ws)) (sym (append-nil r.witnesses)) at }
witnesses_run (w ∷ ws) d r at fits all =
    let one = witness_run d r w at fits all.0 in
    let more = witnesses_run ws one.draft (with_witness r w) one.at fits all.1 in
    record {
      draft = more.draft;
      ran = run_then d (witness_lines r.procs w) (lines_of_witnesses r.procs ws) one.draft one.ran ∙ more.ran;
      at = subst (λ (vs : List WitnessText). IsAtBody more.draft (with_all r vs)) (append_assoc r.witnesses (w ∷ []) ws) more.at;
    }

slice_part_run : (r : Report) (o : Option SliceText) → RunFits r.procs r.lengths → IfSome o (SliceFits r.lengths) → r.slice ≡ None → IsRunTo (draft.Judged r) (lines_of_slice r.procs o) (record r { slice = o })
unfolding run
slice_part_run r None run_fits fits none = record { draft = draft.Judged r; ran = refl; at = subst (λ (o : Option SliceText). IsAtBody (draft.Judged r) (record r { slice = o })) none (at_judged r) }
slice_part_run r (Some s) run_fits fits none = record { draft = draft.Sliced r s; ran = slice_run r s run_fits fits; at = at_sliced r s }

-- ---- a report

pub report_run : (r : Report) → IsWellFormed r → run draft.Start (report_lines r) ≡ Some (draft.Over r)
unfolding run
report_run r fits =
    let bare = begun r.batch r.procs r.lengths r.formula r.verdict in
    let head = head_run r fits in
    let sliced = slice_part_run bare r.slice fits.run fits.slice refl in
    let witnessed = witnesses_run r.witnesses sliced.draft (record bare { slice = r.slice }) sliced.at fits.run fits.witnesses in
    let slices = lines_of_slice r.procs r.slice in
    let witnesses = lines_of_witnesses r.procs r.witnesses in
    let parts : run (draft.Judged bare) (slices ++ witnesses) ≡ Some witnessed.draft = run_then (draft.Judged bare) slices witnesses sliced.draft sliced.ran ∙ witnessed.ran in
    let body : run draft.Start (body_lines r) ≡ Some witnessed.draft = run_then draft.Start (head_lines r) (slices ++ witnesses) (draft.Judged bare) head ∙ parts in
    let last : step witnessed.draft end_line ≡ Some (draft.Over r) = witnessed.at end_line (other_end r) ∙ end_taken r in
    run_then draft.Start (body_lines r) (end_line ∷ []) witnessed.draft body ∙ rw last refl
