-- A line that is taken is the next one of the draft, and what is known of the draft stays true.
use Rattle.std.proofs.Common.{◌≡◌, ℕ, ◌+◌, ◌<◌, ◌≤◌, Bool, true, false, Option, Some, None, List, [], ◌∷◌, ◌++◌, length, map, refl, sym, ap, subst, ◌∙◌, arith, inl, inr, append_assoc, append-nil}
use Rattle.std.specs.Prelude.{is_some, IfSome, ◌⊎◌, if◌then◌else◌}
use Rattle.std.specs.Str.{bytes_eq}
use Rattle.std.specs.List.{AllByRecursion}
use Rattle.std.proofs.lemmas.Bool.{cases_Bool, true≢false}
use Rattle.std.proofs.lemmas.List.{map-append}
use Rattle.std.proofs.lemmas.Option.{same_Some, cond_some}
use Rattle.std.proofs.lemmas.Slice.Eq.{bytes_eq-Decides}
use Rattle.run_model.specs.Cut.{Cut}
use Rattle.pota_base.specs.declared.shape.EventId.{EventId}
use Rattle.pota_base.specs.Shape.{HasEvent}
use Rattle.pota_base.specs.Number.{◌>>=◌}
use Rattle.log_lines.specs.Names.{Name}
use Rattle.log_lines.specs.Spelling.{ProcsFit, procs_line, end_line}
use Rattle.log_lines.specs.Reading.{choose, procs_in}
use Rattle.log_lines.proofs.WordLaws.{bind_some}
use Rattle.log_lines.proofs.LineLaws.{procs_take}
use Rattle.event_log.specs.Before.{Line}
use Rattle.event_log.proofs.Lists.{all_push, all_append}
use Rattle.witness_kinds.specs.declared.Path.{Path}
use Rattle.witness_kinds.specs.declared.Witness.{Witness}
use Rattle.witness_kinds.specs.declared.Witness.TheVariants as witness
use Rattle.report_lines.specs.PassedOn.{Edge}
use Rattle.report_lines.specs.declared.kinds.WitnessText.{WitnessText}
use Rattle.report_lines.specs.Formula.{IsCanonical}
use Rattle.report_lines.specs.Spelling.{kind_text, title, batch_line, lengths_line, formula_line, verdict_line, slice_line, edge_line, witness_line, step_line, IsPositive, EdgeFits, BoundsFit, PathFits, WitnessFits, WitnessTextFits, RunFits}
use Rattle.report_lines.specs.Reading.{is_title, batch_in, lengths_in, formula_in, verdict_in, slice_in, edge_in, step_in, witness_in, has_path, steps_of, with_steps}
use Rattle.report_lines.proofs.LineLaws.{batch_takes, lengths_take, formula_takes, verdict_takes, slice_takes, edge_takes, step_takes}
use Rattle.report_lines.proofs.WitnessLaws.{witness_takes}
use Rattle.report.specs.declared.report.SliceText.{SliceText}
use Rattle.report.specs.declared.report.Report.{Report}
use Rattle.report.specs.declared.draft.Draft.{Draft}
use Rattle.report.specs.declared.draft.Draft.TheVariants as draft
use Rattle.report.specs.Spelling.{IsWellFormed, SliceFits, slice_lines, lines_of_slice, witness_lines, lines_of_witnesses, head_lines, body_lines, report_lines}
use Rattle.report.specs.Machine.{begun, with_slice, with_edge, walked, with_witness, next_edge}
use Rattle.report.specs.Machine.{next_step, body_step, step, IsBegun, IsGood}
use Rattle.report.specs.inside.Machine.{run, lines_of}

-- ---- lists of lines

pub map_push : {A : Type 0} (spell : A → Line) (xs : List A) (x : A) → map spell (xs ++ x ∷ []) ≡ map spell xs ++ spell x ∷ []
map_push spell xs x = map-append spell xs (x ∷ [])

pub witnesses_push : (procs : List Name) (ws : List WitnessText) (w : WitnessText) → lines_of_witnesses procs (ws ++ w ∷ []) ≡ lines_of_witnesses procs ws ++ witness_lines procs w
witnesses_push procs [] w = append-nil (witness_lines procs w)
witnesses_push procs (v ∷ ws) w = ap (λ (ls : List Line). witness_lines procs v ++ ls) (witnesses_push procs ws w) ∙ sym (append_assoc (witness_lines procs v) (lines_of_witnesses procs ws) (witness_lines procs w))

-- a report without slice and witnesses has its first lines alone
pub begun_lines : (r : Report) → IsBegun r → body_lines r ≡ head_lines r
begun_lines r b = rw (b.slice, b.witnesses) refl

pub sliced_lines : (r : Report) (s : SliceText) → IsBegun r → body_lines (with_slice r s) ≡ head_lines r ++ slice_lines r.procs s
sliced_lines r s b = rw b.witnesses (ap (λ (ls : List Line). head_lines r ++ ls) (append-nil (slice_lines r.procs s)))

pub witness_behind : (r : Report) (w : WitnessText) → body_lines (with_witness r w) ≡ body_lines r ++ witness_lines r.procs w
witness_behind r w =
    let front = lines_of_slice r.procs r.slice in
    let ws = lines_of_witnesses r.procs r.witnesses in
    let last = witness_lines r.procs w in
    ap (λ (ls : List Line). head_lines r ++ (front ++ ls)) (witnesses_push r.procs r.witnesses w)
    ∙ ap (λ (ls : List Line). head_lines r ++ ls) (sym (append_assoc front ws last)) ∙ sym (append_assoc (head_lines r) (front ++ ws) last)

-- ---- the steps of a witness

-- steps have lines of their own
pub kind_same : (procs : List Name) (w : Witness) (steps : List EventId) → kind_text procs (with_steps w steps) ≡ kind_text procs w
kind_same procs witness.Nothing steps = refl
kind_same procs (witness.Reach path) steps = refl
kind_same procs (witness.Against path) steps = refl
kind_same procs (witness.Always path) steps = refl
kind_same procs witness.StuckStart steps = refl
kind_same procs witness.StuckFinish steps = refl
kind_same procs (witness.StuckPair first other) steps = refl

pub no_steps : (w : Witness) → steps_of (with_steps w []) ≡ []
no_steps witness.Nothing = refl
no_steps (witness.Reach path) = refl
no_steps (witness.Against path) = refl
no_steps (witness.Always path) = refl
no_steps witness.StuckStart = refl
no_steps witness.StuckFinish = refl
no_steps (witness.StuckPair first other) = refl

pub steps_are : (w : Witness) (steps : List EventId) → has_path w ≡ true → steps_of (with_steps w steps) ≡ steps
steps_are witness.Nothing steps h = absurd (true≢false (sym h))
steps_are (witness.Reach path) steps h = refl
steps_are (witness.Against path) steps h = refl
steps_are (witness.Always path) steps h = refl
steps_are witness.StuckStart steps h = absurd (true≢false (sym h))
steps_are witness.StuckFinish steps h = absurd (true≢false (sym h))
steps_are (witness.StuckPair first other) steps h = absurd (true≢false (sym h))

pub line_same : (procs : List Name) (w : WitnessText) (steps : List EventId) → witness_line procs (walked w steps) ≡ witness_line procs w
line_same procs w steps = rw (kind_same procs w.witness steps) refl

path_more : (lengths : Cut) (path : Path) (steps : List EventId) (e : EventId) → PathFits lengths (record { goal = path.goal; steps = steps }) → HasEvent lengths e → PathFits lengths (record { goal = path.goal; steps = steps ++ e ∷ [] })
path_more lengths path steps e fits there = record { goal = fits.goal; steps = all_push (HasEvent lengths) steps e fits.steps there }

witness_more : (lengths : Cut) (w : Witness) (steps : List EventId) (e : EventId) → WitnessFits lengths (with_steps w steps) → HasEvent lengths e → WitnessFits lengths (with_steps w (steps ++ e ∷ []))
witness_more lengths witness.Nothing steps e fits there = tt
witness_more lengths (witness.Reach path) steps e fits there = path_more lengths path steps e fits there
witness_more lengths (witness.Against path) steps e fits there = path_more lengths path steps e fits there
witness_more lengths (witness.Always path) steps e fits there = path_more lengths path steps e fits there
witness_more lengths witness.StuckStart steps e fits there = tt
witness_more lengths witness.StuckFinish steps e fits there = tt
witness_more lengths (witness.StuckPair first other) steps e fits there = fits

witness_bare : (lengths : Cut) (w : Witness) → WitnessFits lengths w → WitnessFits lengths (with_steps w [])
witness_bare lengths witness.Nothing fits = tt
witness_bare lengths (witness.Reach path) fits = record { goal = fits.goal; steps = tt }
witness_bare lengths (witness.Against path) fits = record { goal = fits.goal; steps = tt }
witness_bare lengths (witness.Always path) fits = record { goal = fits.goal; steps = tt }
witness_bare lengths witness.StuckStart fits = tt
witness_bare lengths witness.StuckFinish fits = tt
witness_bare lengths (witness.StuckPair first other) fits = fits

-- ---- drafts closed

pub begun_fits : (batch : ℕ) (procs : List Name) (lengths : Cut) (formula : List ℕ) (verdict : Bool) → IsPositive batch → RunFits procs lengths → IsCanonical formula → IsBegun (begun batch procs lengths formula verdict)
begun_fits batch procs lengths formula verdict b r f = record {
  fits = record { batch = b; run = r; formula = f; slice = tt; witnesses = tt };
  slice = refl;
  witnesses = refl;
}

pub slice_fits : (r : Report) (s : SliceText) → IsWellFormed r → SliceFits r.lengths s → IsWellFormed (with_slice r s)
slice_fits r s fits slice = record { batch = fits.batch; run = fits.run; formula = fits.formula; slice = slice; witnesses = fits.witnesses }

pub witness_fits : (r : Report) (w : WitnessText) → IsWellFormed r → WitnessTextFits r.lengths w → IsWellFormed (with_witness r w)
witness_fits r w fits last = record { batch = fits.batch; run = fits.run; formula = fits.formula; slice = fits.slice; witnesses = all_push (WitnessTextFits r.lengths) r.witnesses w fits.witnesses last }

-- ---- a line more

pub record IsKept (before : List Line) (line : Line) (e : Draft) : Type 0 where
  pub good : IsGood e
  pub lines_are : lines_of e ≡ before ++ line ∷ []

-- the value of a choice
choice : {A B : Type 0} (o : Option A) (f : A → Option B) (other : Option B) (y : B) → choose o f other ≡ Some y → ((x : A) × (o ≡ Some x) × (f x ≡ Some y)) ⊎ ((o ≡ None) × (other ≡ Some y))
choice None f other y h = inr (refl, h)
choice (Some x) f other y h = inl (x, refl, h)

taken : (before : List Line) (line : Line) (e f : Draft) → Some e ≡ Some f → IsKept before line e → IsKept before line f
taken before line e f same kept = subst (IsKept before line) (same_Some _ _ same) kept

one_line : (before : List Line) (line spelled : Line) → line ≡ spelled → before ++ spelled ∷ [] ≡ before ++ line ∷ []
one_line before line spelled e = ap (λ (l : Line). before ++ l ∷ []) (sym e)

body_kept : (r : Report) (line : Line) (e : Draft) → IsWellFormed r → body_step r line ≡ Some e → IsKept (body_lines r) line e
body_kept r line e fits h = elim (choice (witness_in r.procs r.lengths line) _ _ e h) [
  | inl w ↦
      let t = witness_takes r.procs r.lengths line w.0 fits.run.lengths.width w.1 in
      let lines : witness_lines r.procs (walked w.0 []) ≡ line ∷ [] = rw (no_steps w.0.witness) (ap (λ (l : Line). l ∷ []) (line_same r.procs w.0 [] ∙ sym t.0)) in
      let kept : IsKept (body_lines r) line (draft.Walked r w.0 []) = record {
        good = (fits, record { disjunct = t.1.disjunct; part = t.1.part; witness = witness_bare r.lengths w.0.witness t.1.witness });
        lines_are = ap (λ (ls : List Line). body_lines r ++ ls) lines;
      } in
      taken (body_lines r) line (draft.Walked r w.0 []) e w.2 kept
  | inr other ↦
      let g = cond_some (bytes_eq line end_line) (draft.Over r) e other.1 in
      let word = (bytes_eq-Decides line end_line).0 g.0 in
      let kept : IsKept (body_lines r) line (draft.Over r) = record { good = fits; lines_are = one_line (body_lines r) line end_line word } in
      subst (IsKept (body_lines r) line) g.1 kept
]

slice_kept : (r : Report) (line : Line) (e : Draft) → IsBegun r → step (draft.Judged r) line ≡ Some e → IsKept (head_lines r) line e
unfolding step
slice_kept r line e b h = elim (choice (slice_in r.lengths line) _ _ e h) [
  | inl s ↦
      let t = slice_takes r.lengths line s.0 s.1 in
      let slice : SliceText = record { bounds = s.0; edges = [] } in
      let kept : IsKept (head_lines r) line (draft.Sliced r slice) = record {
        good = (b, record { bounds = t.1; edges = tt; empty = λ _. refl });
        lines_are = one_line (head_lines r) line (slice_line s.0) t.0;
      } in
      taken (head_lines r) line (draft.Sliced r slice) e s.2 kept
  | inr other ↦ subst (λ (ls : List Line). IsKept ls line e) (begun_lines r b) (body_kept r line e b.fits other.1)
]

edge_kept : (r : Report) (s : SliceText) (line : Line) (e : Draft) → IsBegun r → SliceFits r.lengths s → step (draft.Sliced r s) line ≡ Some e → IsKept (head_lines r ++ slice_lines r.procs s) line e
unfolding step
edge_kept r s line e b fits h = elim (choice (next_edge r s line) _ _ e h) [
  | inl x ↦
      let g = some_if (is_some s.bounds) (edge_in r.procs r.lengths line) x.0 x.1 in
      let t = edge_takes r.procs r.lengths line x.0 b.fits.run.lengths.width g.1 in
      let more : slice_lines r.procs (with_edge s x.0) ≡ slice_lines r.procs s ++ line ∷ [] = ap (λ (ls : List Line). slice_line s.bounds ∷ ls) (map_push (edge_line r.procs) s.edges x.0 ∙ one_line (map (edge_line r.procs) s.edges) line (edge_line r.procs x.0) t.0) in
      let kept : IsKept (head_lines r ++ slice_lines r.procs s) line (draft.Sliced r (with_edge s x.0)) = record {
        good = (b, record { bounds = fits.bounds; edges = all_push (EdgeFits r.lengths) s.edges x.0 fits.edges t.1; empty = λ none. absurd (bounded s.bounds g.0 none) });
        lines_are = ap (λ (ls : List Line). head_lines r ++ ls) more ∙ sym (append_assoc (head_lines r) (slice_lines r.procs s) (line ∷ []));
      } in
      taken (head_lines r ++ slice_lines r.procs s) line (draft.Sliced r (with_edge s x.0)) e x.2 kept
  | inr other ↦ subst (λ (ls : List Line). IsKept ls line e) (sliced_lines r s b) (body_kept (with_slice r s) line e (slice_fits r s b.fits fits) other.1)
]
  where
    some_if : {A : Type 0} (test : Bool) (o : Option A) (x : A) → (if test then o else None) ≡ Some x → (test ≡ true) × (o ≡ Some x)
    some_if true o x h = (refl, h)
    some_if false o x h = absurd cc

    bounded : {A : Type 0} (o : Option A) → is_some o ≡ true → o ≡ None → ⊥
    bounded None h none = true≢false (sym h)
    bounded (Some x) h none = absurd cc

step_more : (r : Report) (w : WitnessText) (steps : List EventId) (e : EventId) → has_path w.witness ≡ true → witness_lines r.procs (walked w (steps ++ e ∷ [])) ≡ witness_lines r.procs (walked w steps) ++ step_line r.procs e ∷ []
step_more r w steps e h =
    rw (steps_are w.witness (steps ++ e ∷ []) h, steps_are w.witness steps h, kind_same r.procs w.witness (steps ++ e ∷ []), kind_same r.procs w.witness steps) (ap (λ (ls : List Line). witness_line r.procs w ∷ ls) (map_push (step_line r.procs) steps e))

walk_kept : (r : Report) (w : WitnessText) (steps : List EventId) (line : Line) (e : Draft) → IsWellFormed r → WitnessTextFits r.lengths (walked w steps) → step (draft.Walked r w steps) line ≡ Some e → IsKept (body_lines r ++ witness_lines r.procs (walked w steps)) line e
unfolding step
walk_kept r w steps line e fits last h = elim (choice (next_step r w line) _ _ e h) [
  | inl x ↦
      let g = some_if (has_path w.witness) (step_in r.procs r.lengths line) x.0 x.1 in
      let t = step_takes r.procs r.lengths line x.0 fits.run.lengths.width g.1 in
      let before = witness_lines r.procs (walked w steps) in
      let kept : IsKept (body_lines r ++ before) line (draft.Walked r w (steps ++ x.0 ∷ [])) = record {
        good = (fits, record { disjunct = last.disjunct; part = last.part; witness = witness_more r.lengths w.witness steps x.0 last.witness t.1 });
        lines_are = ap (λ (ls : List Line). body_lines r ++ ls) (step_more r w steps x.0 g.0 ∙ one_line before line (step_line r.procs x.0) t.0) ∙ sym (append_assoc (body_lines r) before (line ∷ []));
      } in
      taken (body_lines r ++ before) line (draft.Walked r w (steps ++ x.0 ∷ [])) e x.2 kept
  | inr other ↦ subst (λ (ls : List Line). IsKept ls line e) (witness_behind r (walked w steps)) (body_kept (with_witness r (walked w steps)) line e (witness_fits r (walked w steps) fits last) other.1)
]
  where
    some_if : {A : Type 0} (test : Bool) (o : Option A) (x : A) → (if test then o else None) ≡ Some x → (test ≡ true) × (o ≡ Some x)
    some_if true o x h = (refl, h)
    some_if false o x h = absurd cc

pub step_kept : (d : Draft) (line : Line) (e : Draft) → IsGood d → step d line ≡ Some e → IsKept (lines_of d) line e
unfolding step
step_kept draft.Start line e good h =
    let g = cond_some (is_title line) draft.Titled e h in
    subst (IsKept [] line) g.1 (record { good = tt; lines_are = ap (λ (l : Line). l ∷ []) (sym ((bytes_eq-Decides line title).0 g.0)) })
step_kept draft.Titled line e good h =
    let b = bind_some (batch_in line) _ e h in
    let t = batch_takes line b.0 b.1 in
    taken (title ∷ []) line (draft.Numbered b.0) e b.2 (record { good = t.1; lines_are = one_line (title ∷ []) line (batch_line b.0) t.0 })
step_kept (draft.Numbered batch) line e good h =
    let b = bind_some (procs_in line) _ e h in
    let t = procs_take line b.0 b.1 in
    let before = title ∷ batch_line batch ∷ [] in
    taken before line (draft.Named batch b.0) e b.2 (record { good = (good, t.fits); lines_are = one_line before line (procs_line b.0) t.text })
step_kept (draft.Named batch procs) line e good h =
    let b = bind_some (lengths_in (length procs) line) _ e h in
    let t = lengths_take procs line b.0 b.1 in
    let before = title ∷ batch_line batch ∷ procs_line procs ∷ [] in
    taken before line (draft.Measured batch procs b.0) e b.2 (record { good = (good.0, record { procs = good.1; lengths = t.1 }); lines_are = one_line before line (lengths_line b.0) t.0 })
step_kept (draft.Measured batch procs lengths) line e good h =
    let b = bind_some (formula_in line) _ e h in
    let t = formula_takes line b.0 b.1 in
    let before = title ∷ batch_line batch ∷ procs_line procs ∷ lengths_line lengths ∷ [] in
    taken before line (draft.Stated batch procs lengths b.0) e b.2 (record { good = (good.0, good.1, t.1); lines_are = one_line before line (formula_line b.0) t.0 })
step_kept (draft.Stated batch procs lengths formula) line e good h =
    let b = bind_some (verdict_in line) _ e h in
    let before = title ∷ batch_line batch ∷ procs_line procs ∷ lengths_line lengths ∷ formula_line formula ∷ [] in
    taken before line (draft.Judged (begun batch procs lengths formula b.0)) e b.2
    (record { good = begun_fits batch procs lengths formula b.0 good.0 good.1 good.2; lines_are = one_line before line (verdict_line b.0) (verdict_takes line b.0 b.1) })
step_kept (draft.Judged r) line e good h = slice_kept r line e good h
step_kept (draft.Sliced r s) line e good h = edge_kept r s line e good.0 good.1 h
step_kept (draft.Walked r w steps) line e good h = walk_kept r w steps line e good.0 good.1 h
step_kept (draft.Over r) line e good h = absurd cc

pub record IsReached (before lines : List Line) (e : Draft) : Type 0 where
  pub good : IsGood e
  pub lines_are : lines_of e ≡ before ++ lines

pub run_reached : (d : Draft) (lines : List Line) (e : Draft) → IsGood d → run d lines ≡ Some e → IsReached (lines_of d) lines e
unfolding run
run_reached d [] e good h = subst (IsReached (lines_of d) []) (same_Some _ _ h) (record { good = good; lines_are = sym (append-nil (lines_of d)) })
run_reached d (line ∷ lines) e good h =
    let b = bind_some (step d line) _ e h in
    let kept = step_kept d line b.0 good b.1 in
    let more = run_reached b.0 lines e kept.good b.2 in
    record { good = more.good; lines_are = more.lines_are ∙ ap (λ (ls : List Line). ls ++ lines) kept.lines_are ∙ append_assoc (lines_of d) (line ∷ []) lines }
