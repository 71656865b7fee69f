-- Batches that are filled.
use Rattle.std.proofs.Common.{◌≡◌, ℕ, zero, suc, ◌+◌, ◌<◌, true, false, List, [], ◌∷◌, length, refl, sym, ap, ◌∙◌, subst, arith, inl, inr}
use Rattle.std.specs.List.{AllByRecursion}
use Rattle.std.proofs.lemmas.Bool.{ne_eqb, eq-eqb, cases_Bool, cond-true, cond-false}
use Rattle.event_log.specs.declared.log.Event.{Event}
use Rattle.event_log.specs.declared.log.Header.{Header}
use Rattle.event_log.specs.States.{with_event, with_batch, IsKnown}
use Rattle.event_log.specs.LogText.{event_count}
use Rattle.vector_clock.specs.Events.{Events, EventFits, place, EventStands}
use Rattle.vector_clock.proofs.Growth.{length-with_batch}
use Rattle.vector_clock.specs.Filled.{is_left_out, counts_from, clock_of, filled_event, fill_from, filled_batch, filled_batches}

abbrev with_its_clock : Events → Events → Event → Event
with_its_clock all before e = record e { clock = clock_of all (record { process = e.process; position = place before e }) }

left : (all before : Events) (e : Event) → is_left_out e ≡ true → filled_event all before e ≡ with_its_clock all before e
left all before e out = cond-true (is_left_out e) _ _ out

written : (all before : Events) (e : Event) → is_left_out e ≡ false → filled_event all before e ≡ e
written all before e out = cond-false (is_left_out e) _ _ out

-- ---- a written clock stays

pub stays_from : (procs : ℕ) (all before : Events) (batch : List Event) → 0 < procs → AllByRecursion (EventFits procs) batch → fill_from all before batch ≡ batch
unfolding fill_from
stays_from procs all before [] some fits = refl
stays_from procs all before (e ∷ es) some fits =
    let one : filled_event all before e ≡ e = written all before e (ne_eqb (length e.clock) 0 (λ q. absurd (omega (arith, some, fits.0.clock.width, q)))) in
    ap (λ (x : Event). x ∷ fill_from all (with_event before (filled_event all before e)) es) one
    ∙ ap (λ (xs : List Event). e ∷ xs) (stays_from procs all (with_event before (filled_event all before e)) es some fits.1)

-- ---- what is filled keeps all but the clock

pub length-counts_from : (f : ℕ → ℕ) (from n : ℕ) → length (counts_from f from n) ≡ n
unfolding counts_from
length-counts_from f from zero = refl
length-counts_from f from (suc n) = omega (arith, length-counts_from f (from + 1) n)

-- what holds of the event with either clock holds of the filled one
one_filled : (P : Event → Type 0) (all before : Events) (e : Event) → (is_left_out e ≡ true → P (with_its_clock all before e)) → (is_left_out e ≡ false → P e) → P (filled_event all before e)
one_filled P all before e out in_ = elim (cases_Bool (is_left_out e)) [
  | inl is ↦ subst P (sym (left all before e is)) (out is)
  | inr is ↦ subst P (sym (written all before e is)) (in_ is)
]

pub one_fits : (all before : Events) (e : Event) → EventStands (length all) e → EventFits (length all) (filled_event all before e)
one_fits all before e stands =
    one_filled (EventFits (length all)) all before e
    (λ out. record { clock = record { process = stands.process; width = length-counts_from _ 0 (length all) }; peer = stands.peer })
    (λ is. elim stands.width [
      | inl wide ↦ record { clock = record { process = stands.process; width = wide }; peer = stands.peer }
      | inr none ↦ absurd (no_bool (sym (eq-eqb (length e.clock) 0 (ap length none)) ∙ is))
    ])
  where
    no_bool : true ≡ false → ⊥
    no_bool h = cc

pub fits_from : (all before : Events) (batch : List Event) → AllByRecursion (EventStands (length all)) batch → AllByRecursion (EventFits (length all)) (fill_from all before batch)
unfolding fill_from
fits_from all before [] stands = tt
fits_from all before (e ∷ es) stands = (one_fits all before e stands.0, fits_from all (with_event before (filled_event all before e)) es stands.1)

pub filled_fits : (before : Events) (batch : List Event) → AllByRecursion (EventStands (length before)) batch → AllByRecursion (EventFits (length before)) (filled_batch before batch)
filled_fits before batch stands =
    let same : length (with_batch before batch) ≡ length before = length-with_batch before batch in
    subst (λ (n : ℕ). AllByRecursion (EventFits n) (filled_batch before batch)) same
    (fits_from (with_batch before batch) before batch (subst (λ (n : ℕ). AllByRecursion (EventStands n) batch) (sym same) stands))

pub length-fill_from : (all before : Events) (batch : List Event) → length (fill_from all before batch) ≡ length batch
unfolding fill_from
length-fill_from all before [] = refl
length-fill_from all before (e ∷ es) = omega (arith, length-fill_from all (with_event before (filled_event all before e)) es)

pub known_from : (h : Header) (all before : Events) (batch : List Event) → AllByRecursion (IsKnown h) batch → AllByRecursion (IsKnown h) (fill_from all before batch)
unfolding fill_from
known_from h all before [] known = tt
known_from h all before (e ∷ es) known =
    (one_filled (IsKnown h) all before e (λ out. record { process = known.0.process; assigns = known.0.assigns }) (λ is. known.0), known_from h all (with_event before (filled_event all before e)) es known.1)

pub filled_count : (before : Events) (batches : List (List Event)) → event_count (filled_batches before batches) ≡ event_count batches
unfolding filled_batches
filled_count before [] = refl
filled_count before (b ∷ bs) = omega (arith, length-fill_from (with_batch before b) before b, filled_count (with_batch before (filled_batch before b)) bs)

pub length-filled : (before : Events) (batches : List (List Event)) → length (filled_batches before batches) ≡ length batches
unfolding filled_batches
length-filled before [] = refl
length-filled before (b ∷ bs) = omega (arith, length-filled (with_batch before (filled_batch before b)) bs)

-- where each clock is written, nothing is filled in
pub none_left : (all before : Events) (batch : List Event) → AllByRecursion (λ (e : Event). is_left_out e ≡ false) batch → fill_from all before batch ≡ batch
unfolding fill_from
none_left all before [] in_ = refl
none_left all before (e ∷ es) in_ =
    ap (λ (x : Event). x ∷ fill_from all (with_event before (filled_event all before e)) es) (written all before e in_.0)
    ∙ ap (λ (xs : List Event). e ∷ xs) (none_left all (with_event before (filled_event all before e)) es in_.1)
