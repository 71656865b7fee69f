-- Lines: what is read is spelled so, and what is spelled so is read.
use Rattle.std.proofs.Common.{◌≡◌, ℕ, ◌+◌, ◌^◌, ◌<◌, ◌≤◌, Bool, true, false, cond, Option, Some, None, List, [], ◌∷◌, ◌++◌, length, sum, refl, sym, ap, subst, ◌∙◌, arith, inl, inr, append_assoc}
use Rattle.std.specs.Prelude.{nat_le, codes}
use Rattle.std.specs.Str.{bytes_eq}
use Rattle.std.specs.Fmt.{decimal}
use Rattle.std.proofs.lemmas.Bool.{cases_Bool, leb-true, le-leb}
use Rattle.std.proofs.lemmas.List.{append-nil}
use Rattle.std.proofs.lemmas.Option.{same_Some, cond_some}
use Rattle.std.proofs.lemmas.Slice.Eq.{bytes_eq-Decides}
use Rattle.run_model.specs.Cut.{Cut, count}
use Rattle.pota_base.specs.declared.shape.EventId.{EventId}
use Rattle.pota_base.specs.Shape.{HasEvent}
use Rattle.pota_base.specs.Number.{◌>>=◌}
use Rattle.log_lines.specs.Names.{Name}
use Rattle.log_lines.specs.Spelling.{clock_text}
use Rattle.log_lines.specs.Reading.{text_at, clock_at}
use Rattle.pota_base.specs.Number.{digits_from}
use Rattle.pota_base.specs.Limits.{most_events}
use Rattle.log_lines.proofs.WordLaws.{bind_some, text_takes}
use Rattle.slice_graph.specs.declared.edges.Edge.{Edge}
use Rattle.report_lines.specs.Formula.{IsCanonical, is_canonical}
use Rattle.report_lines.specs.Spelling.{event_text, truth_text, bounds_text, batch_line, lengths_line, formula_line, verdict_line, slice_line, edge_line, step_line, IsPositive, LengthsFit, CutFits, EdgeFits, BoundsFit, RunFits}
use Rattle.report_lines.specs.Reading.{alone, positive_at, cut_at, within_at, event_at, batch_in, lengths_in, formula_in, truth_in, verdict_in, bounds_in, slice_in, edge_in, step_in}
use Rattle.report_lines.proofs.Formulas.{canonical_is, canonical_again}
use Rattle.report_lines.proofs.PartLaws.{alone_takes, positive_takes, positive_end, cut_takes, cut_again, lengths_small, stops_end, stops_space, within_takes, within_at_again, within_end, event_takes, event_again, event_end}

-- a text that is read to its end has no rest
pub nothing_left : (text xs rest : List ℕ) → xs ≡ text ++ rest → rest ≡ [] → xs ≡ text
nothing_left text xs rest e none = e ∙ ap (λ (t : List ℕ). text ++ t) none ∙ append-nil text

pub bytes_same : (xs : List ℕ) → bytes_eq xs xs ≡ true
bytes_same xs = (bytes_eq-Decides xs xs).1 refl

-- ---- batch

pub batch_takes : (line : List ℕ) (n : ℕ) → batch_in line ≡ Some n → (line ≡ batch_line n) × IsPositive n
unfolding batch_in
batch_takes line n h =
    let b = bind_some (text_at (codes "batch ") line >>= positive_at) alone n h in
    let a = bind_some (text_at (codes "batch ") line) positive_at b.0 b.1 in
    let end = alone_takes b.0 n b.2 in
    let t = positive_takes a.0 b.0.0 b.0.1 a.2 in
    let text = text_takes (codes "batch ") line a.0 a.1 ∙ ap (λ (r : List ℕ). codes "batch " ++ r) (nothing_left (decimal b.0.0) a.0 b.0.1 t.text end.end) in
    subst (λ (m : ℕ). (line ≡ batch_line m) × IsPositive m) end.value (text, t.fits)

pub batch_again : (n : ℕ) → IsPositive n → batch_in (batch_line n) ≡ Some n
unfolding batch_in text_at
batch_again n fits = rw (positive_end n fits) refl

-- ---- lengths

pub lengths_take : (procs : List Name) (line : List ℕ) (c : Cut) → lengths_in (length procs) line ≡ Some c → (line ≡ lengths_line c) × LengthsFit procs c
unfolding lengths_in
lengths_take procs line c h =
    let d = bind_some (text_at (codes "lengths ") line >>= cut_at (length procs) >>= alone) _ c h in
    let b = bind_some (text_at (codes "lengths ") line >>= cut_at (length procs)) alone d.0 d.1 in
    let a = bind_some (text_at (codes "lengths ") line) (cut_at (length procs)) b.0 b.1 in
    let g = cond_some (nat_le (sum d.0) most_events) d.0 c d.2 in
    let end = alone_takes b.0 d.0 b.2 in
    let t = cut_takes (length procs) a.0 b.0.0 b.0.1 a.2 in
    let text = text_takes (codes "lengths ") line a.0 a.1 ∙ ap (λ (r : List ℕ). codes "lengths " ++ r) (nothing_left (clock_text b.0.0) a.0 b.0.1 t.text end.end) in
    let same : b.0.0 ≡ c = end.value ∙ g.1 in
    let few : sum c ≤ most_events = subst (λ (x : Cut). sum x ≤ most_events) g.1 (leb-true (sum d.0) most_events g.0) in
    (subst (λ (x : Cut). line ≡ lengths_line x) same text, record { width = subst (λ (x : Cut). length x ≡ length procs) same t.width; few = few })

pub lengths_again : (procs : List Name) (c : Cut) → 0 < length procs → LengthsFit procs c → lengths_in (length procs) (lengths_line c) ≡ Some c
unfolding lengths_in text_at
lengths_again procs c some fits =
    let read : cut_at (length procs) (clock_text c) ≡ Some (c, []) = ap (cut_at (length procs)) (sym (append-nil (clock_text c))) ∙ cut_again (length procs) c [] some fits.width (lengths_small c fits.few) stops_end in
    rw (read, le-leb (sum c) most_events fits.few) refl

-- ---- formula and verdict

pub formula_takes : (line text : List ℕ) → formula_in line ≡ Some text → (line ≡ formula_line text) × IsCanonical text
unfolding formula_in
formula_takes line text h =
    let a = bind_some (text_at (codes "formula ") line) _ text h in
    let g = cond_some (is_canonical a.0) a.0 text a.2 in
    subst (λ (t : List ℕ). (line ≡ formula_line t) × IsCanonical t) g.1 (text_takes (codes "formula ") line a.0 a.1, canonical_is a.0 g.0)

pub formula_again : (text : List ℕ) → IsCanonical text → formula_in (formula_line text) ≡ Some text
unfolding formula_in text_at
formula_again text fits = rw (canonical_again text fits) refl

truth_takes : (text : List ℕ) (b : Bool) → truth_in text ≡ Some b → text ≡ truth_text b
truth_takes text b h = elim (cases_Bool (bytes_eq text (codes "true"))) [
  | inl same ↦ subst (λ (v : Bool). text ≡ truth_text v) (same_Some _ _ (rw same at h)) ((bytes_eq-Decides text (codes "true")).0 same)
  | inr apart ↦
      let g = cond_some (bytes_eq text (codes "false")) false b (rw apart at h) in
      subst (λ (v : Bool). text ≡ truth_text v) g.1 ((bytes_eq-Decides text (codes "false")).0 g.0)
]

pub verdict_takes : (line : List ℕ) (b : Bool) → verdict_in line ≡ Some b → line ≡ verdict_line b
unfolding verdict_in
verdict_takes line b h =
    let a = bind_some (text_at (codes "verdict ") line) truth_in b h in
    text_takes (codes "verdict ") line a.0 a.1 ∙ ap (λ (t : List ℕ). codes "verdict " ++ t) (truth_takes a.0 b a.2)

pub verdict_again : (b : Bool) → verdict_in (verdict_line b) ≡ Some b
unfolding verdict_in text_at
verdict_again true = refl
verdict_again false = refl

-- ---- slices

bounds_take : (lengths : Cut) (bytes : List ℕ) (bounds : Option (Cut × Cut)) → bounds_in lengths bytes ≡ Some bounds → (bytes ≡ bounds_text bounds) × BoundsFit lengths bounds
unfolding bounds_in
bounds_take lengths bytes bounds h =
    let a = bind_some (within_at lengths bytes) _ bounds h in
    let s = bind_some (text_at (32 ∷ []) a.0.1) _ bounds a.2 in
    let b = bind_some (within_at lengths s.0) _ bounds s.2 in
    let end = alone_takes (Some (a.0.0, b.0.0), b.0.1) bounds b.2 in
    let low = within_takes lengths bytes a.0.0 a.0.1 a.1 in
    let high = within_takes lengths s.0 b.0.0 b.0.1 b.1 in
    let text = low.text ∙ ap (λ (t : List ℕ). clock_text a.0.0 ++ t) (text_takes (32 ∷ []) a.0.1 s.0 s.1 ∙ ap (λ (t : List ℕ). 32 ∷ t) (nothing_left (clock_text b.0.0) s.0 b.0.1 high.text end.end)) in
    subst (λ (x : Option (Cut × Cut)). (bytes ≡ bounds_text x) × BoundsFit lengths x) end.value (text, (low.fits, high.fits))

pub slice_takes : (lengths : Cut) (line : List ℕ) (bounds : Option (Cut × Cut)) → slice_in lengths line ≡ Some bounds → (line ≡ slice_line bounds) × BoundsFit lengths bounds
unfolding slice_in
slice_takes lengths line bounds h =
    let a = bind_some (text_at (codes "slice ") line) _ bounds h in
    let text = text_takes (codes "slice ") line a.0 a.1 in
    elim (cases_Bool (bytes_eq a.0 (codes "empty"))) [
      | inl empty ↦
          let word = (bytes_eq-Decides a.0 (codes "empty")).0 empty in
          let none : Option (Cut × Cut) = None in
          let made : (line ≡ slice_line none) × BoundsFit lengths none = (text ∙ ap (λ (t : List ℕ). codes "slice " ++ t) word, tt) in
          subst (λ (x : Option (Cut × Cut)). (line ≡ slice_line x) × BoundsFit lengths x) (same_Some _ _ (rw empty at a.2)) made
      | inr other ↦
          let t = bounds_take lengths a.0 bounds (rw other at a.2) in
          (text ∙ ap (λ (r : List ℕ). codes "slice " ++ r) t.0, t.1)
    ]

-- no cut is spelled `empty`
empty_is_no_cut : (lengths : Cut) → within_at lengths (codes "empty") ≡ None
unfolding within_at cut_at clock_at digits_from
empty_is_no_cut lengths = refl

not_empty : (lengths : Cut) (bytes : List ℕ) (read : Cut × List ℕ) → within_at lengths bytes ≡ Some read → bytes_eq bytes (codes "empty") ≡ false
not_empty lengths bytes read h = elim (cases_Bool (bytes_eq bytes (codes "empty"))) [
  | inl empty ↦
      let word = (bytes_eq-Decides bytes (codes "empty")).0 empty in
      let none : None ≡ Some read = sym (empty_is_no_cut lengths) ∙ ap (within_at lengths) (sym word) ∙ h in
      absurd (cc none)
  | inr other ↦ other
]

module _ (procs : List Name) (lengths : Cut) (run : RunFits procs lengths) where
  pub slice_again : (bounds : Option (Cut × Cut)) → BoundsFit lengths bounds → slice_in lengths (slice_line bounds) ≡ Some bounds
  unfolding slice_in bounds_in text_at
  slice_again None fits = refl
  slice_again (Some bounds) fits =
      let low = within_at_again procs lengths run bounds.0 (32 ∷ clock_text bounds.1) fits.0 (stops_space (clock_text bounds.1)) in
      rw (not_empty lengths (clock_text bounds.0 ++ 32 ∷ clock_text bounds.1) (bounds.0, 32 ∷ clock_text bounds.1) low, low, within_end procs lengths run bounds.1 fits.1) refl

  pub edge_again : (e : Edge) → EdgeFits lengths e → edge_in procs lengths (edge_line procs e) ≡ Some e
  unfolding edge_in text_at
  edge_again e fits =
      rw (event_again procs lengths run e.cause (codes " ->" ++ event_text procs e.effect) fits.cause refl, event_end procs lengths run e.effect fits.effect) refl

  pub step_again : (e : EventId) → HasEvent lengths e → step_in procs lengths (step_line procs e) ≡ Some e
  unfolding step_in text_at
  step_again e there = rw (event_end procs lengths run e there) refl

-- ---- edges and steps

pub edge_takes : (procs : List Name) (lengths : Cut) (line : List ℕ) (e : Edge) → length lengths ≡ length procs → edge_in procs lengths line ≡ Some e → (line ≡ edge_line procs e) × EdgeFits lengths e
unfolding edge_in
edge_takes procs lengths line e width h =
    let a = bind_some (text_at (codes "edge") line) _ e h in
    let b = bind_some (event_at procs lengths a.0) _ e a.2 in
    let s = bind_some (text_at (codes " ->") b.0.1) _ e b.2 in
    let d = bind_some (event_at procs lengths s.0) _ e s.2 in
    let made : Edge = record { cause = b.0.0; effect = d.0.0 } in
    let end = alone_takes (made, d.0.1) e d.2 in
    let cause = event_takes procs lengths a.0 b.0.0 b.0.1 width b.1 in
    let effect = event_takes procs lengths s.0 d.0.0 d.0.1 width d.1 in
    let behind = text_takes (codes " ->") b.0.1 s.0 s.1 ∙ ap (λ (t : List ℕ). codes " ->" ++ t) (nothing_left (event_text procs d.0.0) s.0 d.0.1 effect.text end.end) in
    let text : line ≡ edge_line procs made = text_takes (codes "edge") line a.0 a.1 ∙ ap (λ (t : List ℕ). codes "edge" ++ t) (cause.text ∙ ap (λ (t : List ℕ). event_text procs b.0.0 ++ t) behind) in
    let taken : (line ≡ edge_line procs made) × EdgeFits lengths made = (text, record { cause = cause.there; effect = effect.there }) in
    subst (λ (x : Edge). (line ≡ edge_line procs x) × EdgeFits lengths x) end.value taken

pub step_takes : (procs : List Name) (lengths : Cut) (line : List ℕ) (e : EventId) → length lengths ≡ length procs → step_in procs lengths line ≡ Some e → (line ≡ step_line procs e) × HasEvent lengths e
unfolding step_in
step_takes procs lengths line e width h =
    let b = bind_some (text_at (codes "step") line >>= event_at procs lengths) alone e h in
    let a = bind_some (text_at (codes "step") line) (event_at procs lengths) b.0 b.1 in
    let end = alone_takes b.0 e b.2 in
    let t = event_takes procs lengths a.0 b.0.0 b.0.1 width a.2 in
    let text = text_takes (codes "step") line a.0 a.1 ∙ ap (λ (r : List ℕ). codes "step" ++ r) (nothing_left (event_text procs b.0.0) a.0 b.0.1 t.text end.end) in
    subst (λ (x : EventId). (line ≡ step_line procs x) × HasEvent lengths x) end.value (text, t.there)
