-- The events of a run are there.
use Rattle.std.proofs.Common.{◌≡◌, ℕ, zero, suc, ◌+◌, ◌-◌, ◌<◌, ◌≤◌, List, [], ◌∷◌, length, map, get_or, sym, ap, ◌∙◌, subst, arith, inl, inr}
use Rattle.std.specs.Prelude.{Bool, Option, None, Some, IfSome}
use Rattle.std.specs.List.{AllByRecursion, filter}
use Rattle.std.proofs.lemmas.Bool.{cases_Bool}
use Rattle.std.proofs.lemmas.List.{get_or-map, length-map}
use Rattle.run_model.specs.Cut.{Cut, Clocks, count, lengths}
use Rattle.pota_base.specs.declared.shape.EventId.{EventId}
use Rattle.pota_base.specs.Shape.{HasEvent}
use Rattle.event_log.specs.States.{StatesView}
use Rattle.event_log.proofs.Lists.{all_append}
use Rattle.vector_clock.specs.Events.{Events, clocks_of}
use Rattle.vector_clock.proofs.Growth.{lengths_of, length-clocks_of}
use Rattle.event_log.specs.declared.log.Event.{Event}
use Rattle.view_picture.specs.Columns.{Rows}
use Rattle.view_picture.specs.inside.Placing.{RowsFit}
use Rattle.view_parts.specs.Each.{each_below, own_places, places}
use Rattle.report_lines.specs.declared.kinds.WitnessText.{WitnessText}
use Rattle.report_lines.specs.Spelling.{CutFits, WitnessTextFits, WitnessFits}
use Rattle.witness_kinds.specs.declared.Witness.{Witness}
use Rattle.witness_kinds.specs.declared.Witness.TheVariants as witness
use Rattle.view_picture.specs.Told.{is_drawn, first_drawn, goal_in, goal_of}
use Rattle.view_picture.specs.Choice.{end_of}

all_each : {A : Type 0} (P : A → Type 0) (made : ℕ → List A) (n : ℕ) → ((k : ℕ) → k < n → AllByRecursion P (made k)) → AllByRecursion P (each_below n made)
all_each P made zero each = tt
all_each P made (suc n) each = all_append P (each_below n made) (made n) (all_each P made n (λ k lt. each k (omega (arith, lt)))) (each n (omega arith))

own_there : (lens : List ℕ) (p n : ℕ) → p < length lens → n ≤ get_or lens p 0 → AllByRecursion (HasEvent lens) (own_places p n)
own_there lens p n lt le =
    all_each (HasEvent lens) (λ k. record { process = p; position = k + 1 } ∷ []) n (λ k below. (record { process = omega (arith, lt); first = omega arith; last = omega (arith, le, below) }, tt))

pub places_there : (lens : List ℕ) → AllByRecursion (HasEvent lens) (places lens)
places_there lens = all_each (HasEvent lens) (λ p. own_places p (get_or lens p 0)) (length lens) (λ p lt. own_there lens p (get_or lens p 0) lt (omega arith))

pub all_filter : {A : Type 0} (P : A → Type 0) (passes : A → Bool) (xs : List A) → AllByRecursion P xs → AllByRecursion P (filter passes xs)
all_filter P passes [] all = tt
all_filter P passes (x ∷ xs) all = elim (cases_Bool (passes x)) [
  | inl in_it ↦ rw in_it (all.0, all_filter P passes xs all.1)
  | inr out_of_it ↦ rw out_of_it (all_filter P passes xs all.1)
]

-- an event of the clocks is one of the run, and the other way round
pub of_run : (o : Clocks) (events : Events) (e : EventId) → o ≡ clocks_of events → HasEvent (lengths o) e → HasEvent (map length events) e
of_run o events e is h = subst (λ (l : List ℕ). HasEvent l e) (ap lengths is ∙ lengths_of events) h

pub of_clocks : (o : Clocks) (events : Events) (e : EventId) → o ≡ clocks_of events → HasEvent (map length events) e → HasEvent (lengths o) e
of_clocks o events e is h = subst (λ (l : List ℕ). HasEvent l e) (sym (ap lengths is ∙ lengths_of events)) h

pub all_at : {A : Type 0} (P : A → Type 0) (xs : List A) (i : ℕ) (d : A) → AllByRecursion P xs → i < length xs → P (get_or xs i d)
all_at P [] i d all lt = absurd (omega (arith, lt))
all_at P (x ∷ xs) zero d all lt = all.0
all_at P (x ∷ xs) (suc i) d all lt = all_at P xs i d all.1 (omega (arith, lt))

-- rows that fit a run have a column for each of its events
pub row_end : (events : Events) (rows : Rows) (p : ℕ) → RowsFit (clocks_of events) rows → p < length events → get_or (map length events) p 0 < length (get_or rows p [])
row_end events rows p fit lt = omega (arith, fit.widths p (omega (arith, lt, length-clocks_of events)), ap (λ (l : Cut). count l p) (lengths_of events))

pub row_there : (events : Events) (rows : Rows) (e : EventId) → RowsFit (clocks_of events) rows → HasEvent (map length events) e → e.position - 1 < length (get_or rows e.process [])
row_there events rows e fit h = omega (arith, h.first, h.last, row_end events rows e.process fit (omega (arith, h.process, length-map events (λ (es : List Event). length es))))

-- ---- the goal of a report

goal_fits_in : (lens : Cut) (w : Witness) → WitnessFits lens w → IfSome (goal_in w) (CutFits lens)
goal_fits_in lens witness.Nothing fits = tt
goal_fits_in lens (witness.Reach path) fits = fits.goal
goal_fits_in lens (witness.Against path) fits = fits.goal
goal_fits_in lens (witness.Always path) fits = fits.goal
goal_fits_in lens witness.StuckStart fits = tt
goal_fits_in lens witness.StuckFinish fits = tt
goal_fits_in lens (witness.StuckPair first other) fits = tt

pub goal_fits : (lens : Cut) (ws : List WitnessText) → AllByRecursion (WitnessTextFits lens) ws → IfSome (goal_of (first_drawn ws)) (CutFits lens)
goal_fits lens [] fits = tt
goal_fits lens (w ∷ ws) fits = elim (cases_Bool (is_drawn w.witness)) [
  | inl drawn ↦ rw drawn (goal_fits_in lens w.witness fits.0.witness)
  | inr other ↦ rw other (goal_fits lens ws fits.1)
]

pub goal_width : (lens : Cut) (n : ℕ) (o : Option Cut) → length lens ≡ n → IfSome o (CutFits lens) → IfSome o (λ (cut : Cut). length cut ≡ n)
goal_width lens n None is fits = tt
goal_width lens n (Some cut) is fits = fits.width ∙ is

pub goal_end : (s : StatesView) (o : Option Cut) → IfSome o (CutFits (map length s.events)) → (p : ℕ) → p < length s.events → end_of s o p ≤ length (get_or s.events p [])
goal_end s None fits p lt = omega (arith, get_or-map length s.events p [] 0 lt)
goal_end s (Some cut) fits p lt = omega (arith, fits.within p, get_or-map length s.events p [] 0 lt)
