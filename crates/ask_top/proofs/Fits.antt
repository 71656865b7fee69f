-- The witnesses of an outcome are of events and cuts of its run.
use Rattle.std.proofs.Common.{◌≡◌, ℕ, zero, suc, ◌+◌, ◌<◌, ◌≤◌, Bool, true, false, MatchBool, List, [], ◌∷◌, length, Option, None, Some, sym, subst, ◌∙◌, arith, inl, inr}
use Rattle.std.specs.Prelude.{MatchOption}
use Rattle.std.specs.List.{AllByRecursion}
use Rattle.std.proofs.lemmas.List.{length-map}
use Rattle.pota_base.specs.Shape.{HasEvent}
use Rattle.pota_base.specs.declared.shape.EventId.{EventId}
use Rattle.run_model.specs.Cut.{Cut, Clocks, count, IsWithin, with_next, lengths, initial}
use Rattle.run_model.specs.Run.{Run}
use Rattle.run_model.specs.Formula.{Formula}
use Rattle.run_model.specs.Consistent.{IsConsistent}
use Rattle.run_model.specs.Slice.{Slice, Cuts, StandsFor}
use Rattle.run_model.specs.Meaning.{Family}
use Rattle.run_model.specs.Witness as model
use Rattle.run_model.specs.Witness.{FirstSteps, FirstStepsTo, IsCanonical, IsPlace, IsWitnessOf, WitnessOperator, explained, reaches, never, refuted_at_start, refuted, each_time, stays, false_at_start, false_at_finish, come_together, reaches_next, never_next}
use Rattle.run_model.proofs.Counts.{length-initial, count-initial, with_next_same}
use Rattle.run_model.proofs.Orders.{initial_consistent}
use Rattle.witness_kinds.specs.Views.{places_of, path_of, witness_of}
use Rattle.witness_kinds.specs.declared.Path.{Path}
use Rattle.witness_kinds.specs.declared.Witness.{Witness}
use Rattle.witness_kinds.specs.declared.Witness.TheVariants as witness
use Rattle.report_lines.specs.Spelling.{CutFits, PathFits, WitnessFits}
use Rattle.report_lines.specs.declared.kinds.WitnessText.{WitnessText}
use Rattle.run_report.specs.Witnesses.{ArePartTexts, AreTextsOfTrue, AreTextsOfFalse, IsTextFor, IsTextOfFalse}
use Rattle.question_meaning.specs.Asking.{is_turned}
use Rattle.question_meaning.specs.declared.form.Form.{Form}
use Rattle.question_outcome.specs.Outcomes.{IsOutcome}
use Rattle.question_outcome.specs.declared.outcome.Outcome.{Outcome}
use Rattle.rctl_parts.specs.Pieces.{Piece}
use Rattle.rctl_parts.specs.Spelled.{Names, part_formulas}
use Rattle.asked_parts.specs.Asked.{asked_disjuncts}
use Rattle.ask_text.specs.Text.{IsOfRun}

-- ---- witnesses of the model

record PlaceFits (lens : Cut) (e : model.Place) : Type 0 where
  process : e.process + 1 ≤ length lens
  first : 1 ≤ e.position
  last : e.position ≤ count lens e.process

abbrev PathIs : Cut → model.PathTo → Type 0
PathIs lens path = CutFits lens path.goal × AllByRecursion (PlaceFits lens) path.steps

abbrev Fits : Cut → model.Witness → Type 0
Fits lens model.Nothing = Unit {0}
Fits lens (model.Reach path) = PathIs lens path
Fits lens (model.Against path) = PathIs lens path
Fits lens (model.Always path) = PathIs lens path
Fits lens model.StuckStart = Unit {0}
Fits lens model.StuckFinish = Unit {0}
Fits lens (model.StuckPair first other) = PlaceFits lens first × PlaceFits lens other

module _ (o : Clocks) where
  as_many : length (lengths o) ≡ length o
  unfolding lengths
  as_many = length-map o (λ (es : List Cut). length es)

  cut_fits : (c : Cut) → IsConsistent o c → CutFits (lengths o) c
  cut_fits c is = record { width = is.shaped ∙ sym as_many; within = is.within }

  -- the next event of a process leads to a consistent cut
  next_fits : (c : Cut) (e : model.Place) → IsConsistent o c → e.process < length c → e.position ≡ count c e.process + 1 → IsConsistent o (with_next c e.process) → PlaceFits (lengths o) e
  next_fits c e is there position next =
      let within = next.within e.process in
      let here = with_next_same c e.process there in
      record { process = omega (arith, there, is.shaped, as_many); first = omega (arith, position); last = omega (arith, within, here, position) }

  module _ (A : Cut → Type 0) (within : (c : Cut) → A c → IsConsistent o c) where
    starts : (c : Cut) (es : List model.Place) (d : Cut) → FirstSteps A c es d → A c
    starts c [] d steps = steps.0
    starts c (e ∷ es) d steps = steps.0

    steps_fit : (c : Cut) (es : List model.Place) (d : Cut) → FirstSteps A c es d → CutFits (lengths o) d × AllByRecursion (PlaceFits (lengths o)) es
    steps_fit c [] d steps = (subst (CutFits (lengths o)) steps.1 (cut_fits c (within c steps.0)), tt)
    steps_fit c (e ∷ es) d steps =
        let rest = steps_fit (with_next c e.process) es d steps.4 in
        (rest.0, (next_fits c e (within c steps.0) steps.1 steps.2 (within (with_next c e.process) (starts (with_next c e.process) es d steps.4)), rest.1))

  path_fits : (path : model.PathTo) → FirstStepsTo o path → PathIs (lengths o) path
  path_fits path steps = steps_fit (λ c. IsConsistent o c × IsWithin c path.goal) (λ c h. h.0) (initial o) path.steps path.goal steps

  place_there : (e : model.Place) → IsPlace o e → e.process < length o → PlaceFits (lengths o) e
  place_there e is there = record { process = omega (arith, there, as_many); first = let some = is.0 in omega (arith, some); last = is.1 }

  -- an event that is there has a process that is there
  there_so : (e : model.Place) → IsPlace o e → e.process < length o
  there_so e is = let some = count-some (lengths o) e.process (let a = is.0 in let b = is.1 in omega (arith, a, b)) in omega (arith, some, as_many)
    where
      count-some : (c : Cut) (i : ℕ) → 0 < count c i → i < length c
      count-some [] i some = absurd (omega (arith, some))
      count-some (x ∷ c) zero some = omega arith
      count-some (x ∷ c) (suc i) some = let rest = count-some c i some in omega (arith, rest)

  place_fits : (e : model.Place) → IsPlace o e → PlaceFits (lengths o) e
  place_fits e is = place_there e is (there_so e is)

  first_step : (i : ℕ) → i < length o → IsConsistent o (with_next (initial o) i) → PathIs (lengths o) (model.first_event_of o i)
  first_step i there next =
      let none = count-initial o i in
      let many = length-initial o in (
        cut_fits (with_next (initial o) i) next,
        (next_fits (initial o) (record { process = i; position = 1 }) (initial_consistent o) (omega (arith, there, many)) (omega (arith, none)) next, tt),
      )

  canonical_fits : (s : Slice) (operator : WitnessOperator) (w : model.Witness) → IsCanonical o s operator w → Fits (lengths o) w
  canonical_fits s operator w (reaches {path} bottom steps) = path_fits path steps
  canonical_fits s operator w (never none) = tt
  canonical_fits s operator w (refuted_at_start not) = (cut_fits (initial o) (initial_consistent o), tt)
  canonical_fits s operator w (refuted {path} {e} at first goal steps) = path_fits path steps
  canonical_fits s operator w (each_time at all) = tt
  canonical_fits s operator w (stays {path} goal steps) = steps_fit (Cuts o s) (λ c h. h.consistent) (initial o) path.steps path.goal steps
  canonical_fits s operator w (false_at_start not) = tt
  canonical_fits s operator w (false_at_finish at not) = tt
  canonical_fits s operator w (come_together {first} {other} at end one two) = (place_fits first one.there, place_fits other two.there)
  canonical_fits s operator w (reaches_next {process} has) = first_step process has.0 has.1.consistent
  canonical_fits s operator w (never_next not) = tt

-- ---- witnesses as the code has them

events_fit : (lens : Cut) (es : List EventId) → AllByRecursion (PlaceFits lens) (places_of es) → AllByRecursion (HasEvent lens) es
events_fit lens [] all = tt
events_fit lens (e ∷ es) all = (record { process = all.0.process; first = all.0.first; last = all.0.last }, events_fit lens es all.1)

path_so : (lens : Cut) (path : Path) → PathIs lens (path_of path) → PathFits lens path
path_so lens path is = record { goal = is.0; steps = events_fit lens path.steps is.1 }

fits_so : (lens : Cut) (w : Witness) → Fits lens (witness_of w) → WitnessFits lens w
fits_so lens witness.Nothing fits = tt
fits_so lens (witness.Reach path) fits = path_so lens path fits
fits_so lens (witness.Against path) fits = path_so lens path fits
fits_so lens (witness.Always path) fits = path_so lens path fits
fits_so lens witness.StuckStart fits = tt
fits_so lens witness.StuckFinish fits = tt
fits_so lens (witness.StuckPair first other) fits = (
  record { process = fits.0.process; first = fits.0.first; last = fits.0.last },
  record { process = fits.1.process; first = fits.1.first; last = fits.1.last },
)

module _ (r : Run) where
  abbrev lens : Cut
  lens = lengths r.clocks

  by_operator : (part : Option (WitnessOperator × Formula)) (w : model.Witness)
      → MatchOption part (w ≡ model.Nothing) (λ p. (s : Slice) × StandsFor r.clocks s (Family r p.1) × IsCanonical r.clocks s p.0 w) → Fits lens w
  by_operator None w is = subst (Fits lens) (sym is) tt
  by_operator (Some p) w is = canonical_fits r.clocks is.0 p.0 w is.2

  text_fits : (i j : ℕ) (f : Formula) (w : WitnessText) → IsTextFor r i j f w → IsOfRun lens w
  text_fits i j f w is = fits_so lens w.witness (by_operator (explained r f) (witness_of w.witness) is.witness)

  parts_fit : (i j : ℕ) (fs : List Formula) (ws : List WitnessText) → ArePartTexts r i j fs ws → AllByRecursion (IsOfRun lens) ws
  parts_fit i j [] [] are = tt
  parts_fit i j [] (w ∷ ws) are = absurd are
  parts_fit i j (f ∷ fs) [] are = absurd are
  parts_fit i j (f ∷ fs) (w ∷ ws) are = (text_fits i j f w are.0, parts_fit i (j + 1) fs ws are.1)

  true_fit : (i : ℕ) (ds : List (List Formula)) (ws : List WitnessText) → AreTextsOfTrue r i ds ws → AllByRecursion (IsOfRun lens) ws
  true_fit i [] ws are = absurd are
  true_fit i (d ∷ ds) ws (inl here) = parts_fit i 1 d ws here.1
  true_fit i (d ∷ ds) ws (inr later) = true_fit (i + 1) ds ws later.1

  false_fits : (i j : ℕ) (fs : List Formula) (w : WitnessText) → IsTextOfFalse r i j fs w → IsOfRun lens w
  false_fits i j [] w is = absurd is
  false_fits i j (f ∷ fs) w (inl here) = text_fits i j f w here.1
  false_fits i j (f ∷ fs) w (inr later) = false_fits i (j + 1) fs w later.1

  each_false_fits : (i : ℕ) (ds : List (List Formula)) (ws : List WitnessText) → AreTextsOfFalse r i ds ws → AllByRecursion (IsOfRun lens) ws
  each_false_fits i [] [] are = tt
  each_false_fits i [] (w ∷ ws) are = absurd are
  each_false_fits i (d ∷ ds) [] are = absurd are
  each_false_fits i (d ∷ ds) (w ∷ ws) are = (false_fits i 1 d w are.0, each_false_fits (i + 1) ds ws are.1)

  against_fit : (turned : Bool) (ds : List (List Formula)) (ws : List WitnessText) → MatchBool turned (AreTextsOfTrue r 1 ds ws) (AreTextsOfFalse r 1 ds ws) → AllByRecursion (IsOfRun lens) ws
  against_fit true ds ws are = true_fit 1 ds ws are
  against_fit false ds ws are = each_false_fits 1 ds ws are

  shown_fit : (holds turned : Bool) (ds : List (List Formula)) (ws : List WitnessText) → MatchBool holds (ws ≡ []) (MatchBool turned (AreTextsOfTrue r 1 ds ws) (AreTextsOfFalse r 1 ds ws))
      → AllByRecursion (IsOfRun lens) ws
  shown_fit true turned ds ws none = subst (AllByRecursion (IsOfRun lens)) (sym none) tt
  shown_fit false turned ds ws are = against_fit turned ds ws are

  pub outcome_fits : (names : Names) (form : Form) (own : List (List Piece)) (out : Outcome) → IsOutcome r names form own out → AllByRecursion (IsOfRun lens) out.witnesses
  outcome_fits names form own out is = shown_fit out.holds (is_turned form) (part_formulas names (asked_disjuncts form own)) out.witnesses is.witnesses
