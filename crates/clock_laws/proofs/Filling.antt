-- A filled batch has the clocks of the definition behind filled events.
use Rattle.std.proofs.Common.{◌≡◌, ℕ, zero, suc, ◌+◌, ◌-◌, ◌<◌, ◌≤◌, true, false, List, [], ◌∷◌, ◌++◌, length, map, get_or, refl, sym, ap, ◌∙◌, subst, arith, inl, inr, length-append, append_assoc, append-nil}
use Rattle.std.specs.Prelude.{if◌then◌else◌}
use Rattle.std.specs.List.{AllByRecursion}
use Rattle.std.proofs.lemmas.Bool.{cases_Bool, cases_eq, cond-true, cond-false, eq-eqb}
use Rattle.std.proofs.lemmas.List.{length-set, get_or-append_right}
use Rattle.run_model.specs.Cut.{count}
use Rattle.event_log.specs.declared.log.Event.{Event}
use Rattle.event_log.specs.States.{with_event, with_batch}
use Rattle.greatest_reach.specs.Back.{Back, itself, further}
use Rattle.vector_clock.specs.Events.{Events, EventStands, own_events}
use Rattle.vector_clock.specs.Fill.{Place, IsThere, event_at, no_event, IsLeftOut, Links, Gives, HasClockOf}
use Rattle.vector_clock.specs.Filled.{is_left_out, clock_of, filled_event, fill_from, filled_batch}
use Rattle.vector_clock.proofs.ClockOf.{has_clock}
use Rattle.vector_clock.proofs.FirstPlaces.{own_other}
use Rattle.vector_clock.proofs.Growth.{length-with_batch}
use Rattle.clock_laws.specs.Clocked.{without_clock, without_clocks}
use Rattle.clock_laws.proofs.Own.{of_process, of_here, of_other, of_all, all_at, own_event, own_added, is_behind, grows_batch, event_on}
use Rattle.clock_laws.proofs.Unclocked.{same_more}
use Rattle.clock_laws.proofs.Behind.{event_behind}

-- ---- a written clock is the event's clock

only_itself : (events : Events) (among : Place → Events) (x y : Place) → (IsLeftOut events x → ⊥) → Back (Links events among) x y → y ≡ x
only_itself events among x y written itself = refl
only_itself events among x y written (further {x = m} b l) =
    absurd (written (subst (IsLeftOut events) (only_itself events among x m written b) l.left_out))

pub written_clock : (events : Events) (among : Place → Events) (x : Place) → IsThere events x → ((event_at events x).clock ≡ [] → ⊥) → length (event_at events x).clock ≡ length events → HasClockOf events among x (event_at events x).clock
written_clock events among x there written width = record {
  width = width;
  counts = λ j below. record {
    above = λ y b n g. own j n (subst (λ (z : Place). Gives events j z n) (only_itself events among x y (λ out. written out.1) b) g);
    reached = inr (x, itself, inl ((there, written), refl));
  };
}
  where
    own : (j n : ℕ) → Gives events j x n → n ≤ count (event_at events x).clock j
    own j n (inl w) = omega (arith, w.1)
    own j n (inr o) = absurd (written o.0.1)

-- ---- the filled events of one process

-- the event at this place, with its clock
abbrev filled_at : Events → ℕ → ℕ → Event → Event
filled_at all p a e = if is_left_out e then record e { clock = clock_of all (record { process = p; position = a }) } else e

filled_on : Events → ℕ → ℕ → List Event → List Event
filled_on all p a [] = []
filled_on all p a (e ∷ es) = filled_at all p a e ∷ filled_on all p (a + 1) es

length-filled_on : (all : Events) (p a : ℕ) (es : List Event) → length (filled_on all p a es) ≡ length es
unfolding filled_on
length-filled_on all p a [] = refl
length-filled_on all p a (e ∷ es) = omega (arith, length-filled_on all p (a + 1) es)

on_at : (all : Events) (p a : ℕ) (es : List Event) (k : ℕ) (d : Event) → k < length es → get_or (filled_on all p a es) k d ≡ filled_at all p (a + k) (get_or es k d)
unfolding filled_on
on_at all p a [] k d lt = absurd (omega (arith, lt))
on_at all p a (e ∷ es) zero d lt = ap (λ (n : ℕ). filled_at all p n e) (omega arith)
on_at all p a (e ∷ es) (suc k) d lt = on_at all p (a + 1) es k d (omega (arith, lt)) ∙ ap (λ (n : ℕ). filled_at all p n (get_or es k d)) (omega arith)

pub same_process : (all before : Events) (e : Event) → (filled_event all before e).process ≡ e.process
same_process all before e = elim (cases_Bool (is_left_out e)) [
  | inl out ↦ ap (λ (x : Event). x.process) (cond-true (is_left_out e) _ _ out)
  | inr written ↦ ap (λ (x : Event). x.process) (cond-false (is_left_out e) _ _ written)
]

same_unclocked : (all before : Events) (e : Event) → without_clock (filled_event all before e) ≡ without_clock e
same_unclocked all before e = elim (cases_Bool (is_left_out e)) [
  | inl out ↦ ap without_clock (cond-true (is_left_out e) _ _ out)
  | inr written ↦ ap without_clock (cond-false (is_left_out e) _ _ written)
]

pub unclocked_fill : (all before : Events) (batch : List Event) → map without_clock (fill_from all before batch) ≡ map without_clock batch
unfolding fill_from
unclocked_fill all before [] = refl
unclocked_fill all before (e ∷ es) =
    ap (λ (x : Event). x ∷ map without_clock (fill_from all (with_event before (filled_event all before e)) es)) (same_unclocked all before e)
    ∙ ap (λ (xs : List Event). without_clock e ∷ xs) (unclocked_fill all (with_event before (filled_event all before e)) es)

-- one event more of a process, or of another
next_filled : (all before : Events) (e : Event) (es : List Event) (p : ℕ) → p < length before
    → own_events (with_event before (filled_event all before e)) p ++ filled_on all p (length (own_events (with_event before (filled_event all before e)) p) + 1) (of_process es p)
    ≡ own_events before p ++ filled_on all p (length (own_events before p) + 1) (of_process (e ∷ es) p)
unfolding filled_on
next_filled all before e es p there = elim (cases_eq e.process p) [
  | inl same ↦
      let f = filled_event all before e in
      let own = own_events before p in
      let n = length own in
      let rest = filled_on all p (n + 1 + 1) (of_process es p) in
      ap (λ (xs : List Event). xs ++ filled_on all p (length xs + 1) (of_process es p)) (own_event before f p there (same_process all before e ∙ same))
      ∙ ap (λ (k : ℕ). (own ++ f ∷ []) ++ filled_on all p (k + 1) (of_process es p)) (length-append own (f ∷ []))
      ∙ append_assoc own (f ∷ []) rest
      ∙ ap (λ (q : ℕ). own ++ (filled_at all q (length (own_events before q) + 1) e ∷ rest)) same
      ∙ ap (λ (xs : List Event). own ++ filled_on all p (n + 1) xs) (sym (of_here e es p same))
  | inr other ↦
      ap (λ (xs : List Event). xs ++ filled_on all p (length xs + 1) (of_process es p))
      (own_other before (filled_event all before e) p (λ q. other (sym (same_process all before e) ∙ sym q)))
      ∙ ap (λ (xs : List Event). own_events before p ++ filled_on all p (length (own_events before p) + 1) xs) (sym (of_other e es p other))
]

own_filled : (all before : Events) (batch : List Event) (p : ℕ) → p < length before
    → own_events (with_batch before (fill_from all before batch)) p ≡ own_events before p ++ filled_on all p (length (own_events before p) + 1) (of_process batch p)
unfolding with_batch fill_from filled_on
own_filled all before [] p there = sym (append-nil (own_events before p))
own_filled all before (e ∷ es) p there =
    let f = filled_event all before e in
    own_filled all (with_event before f) es p (omega (arith, there, length-set before f.process (own_events before f.process ++ f ∷ [])))
    ∙ next_filled all before e es p there

-- ---- the clocks of a filled batch

module _ (filled : Events) (batch : List Event) (stands : AllByRecursion (EventStands (length filled)) batch) where
  abbrev mixed : Events
  mixed = with_batch filled batch

  abbrev whole : Events
  whole = with_batch filled (filled_batch filled batch)

  pub whole_same : without_clocks whole ≡ without_clocks mixed
  whole_same = same_more filled filled (filled_batch filled batch) batch refl (unclocked_fill mixed filled batch)

  -- the event of the batch at a new place
  in_batch : (x : Place) → ℕ → Event
  in_batch x n = get_or (of_process batch x.process) (x.position - 1 - n) no_event

  pub old_filled : (x : Place) → IsThere filled x → event_at whole x ≡ event_at filled x
  old_filled x there = event_on filled whole x (grows_batch filled (filled_batch filled batch)) there

  new_filled : (x : Place) → IsThere mixed x → (IsThere filled x → ⊥) → event_at whole x ≡ filled_at mixed x.process x.position (event_at mixed x)
  new_filled x there not =
      let n = length (own_events filled x.process) in
      let process : x.process < length filled = omega (arith, there.process, length-with_batch filled batch) in
      let behind : n < x.position = is_behind filled mixed x (grows_batch filled batch) not there in
      let k = x.position - 1 - n in
      let added : length (own_events mixed x.process) ≡ n + length (of_process batch x.process) = ap length (own_added filled batch x.process process) ∙ length-append (own_events filled x.process) (of_process batch x.process) in
      ap (λ (es : List Event). get_or es (x.position - 1) no_event) (own_filled mixed filled batch x.process process)
      ∙ get_or-append_right (own_events filled x.process) (filled_on mixed x.process (n + 1) (of_process batch x.process)) n (x.position - 1) no_event refl (omega (arith, behind))
      ∙ on_at mixed x.process (n + 1) (of_process batch x.process) k no_event (omega (arith, behind, there.last, added))
      ∙ ap (λ (a : ℕ). filled_at mixed x.process a (get_or (of_process batch x.process) k no_event)) (omega (arith, behind))
      ∙ ap (filled_at mixed x.process x.position) (sym (event_behind filled batch x n process refl behind))

  new_stands : (x : Place) → IsThere mixed x → (IsThere filled x → ⊥) → EventStands (length filled) (event_at mixed x)
  new_stands x there not =
      let n = length (own_events filled x.process) in
      let process : x.process < length filled = omega (arith, there.process, length-with_batch filled batch) in
      let behind : n < x.position = is_behind filled mixed x (grows_batch filled batch) not there in
      let added : length (own_events mixed x.process) ≡ n + length (of_process batch x.process) = ap length (own_added filled batch x.process process) ∙ length-append (own_events filled x.process) (of_process batch x.process) in
      subst (EventStands (length filled)) (sym (event_behind filled batch x n process refl behind))
      (all_at (EventStands (length filled)) (of_process batch x.process) (x.position - 1 - n) no_event (of_all (EventStands (length filled)) batch x.process stands) (omega (arith, behind, there.last, added)))

  pub new_clock : (x : Place) → IsThere mixed x → (IsThere filled x → ⊥) → HasClockOf mixed (λ y. mixed) x (event_at whole x).clock
  new_clock x there not = elim (cases_Bool (is_left_out (event_at mixed x))) [
    | inl out ↦
        subst (HasClockOf mixed (λ y. mixed) x) (sym (ap (λ (e : Event). e.clock) (new_filled x there not ∙ cond-true (is_left_out (event_at mixed x)) _ _ out))) (has_clock mixed x)
    | inr written ↦
        let not_empty : (event_at mixed x).clock ≡ [] → ⊥ = λ none. no_bool (sym (eq-eqb (length (event_at mixed x).clock) 0 (ap length none)) ∙ written) in
        subst (HasClockOf mixed (λ y. mixed) x) (sym (ap (λ (e : Event). e.clock) (new_filled x there not ∙ cond-false (is_left_out (event_at mixed x)) _ _ written)))
        (written_clock mixed (λ y. mixed) x there not_empty (wide (new_stands x there not) not_empty))
  ]
    where
      no_bool : true ≡ false → ⊥
      no_bool h = cc

      wide : EventStands (length filled) (event_at mixed x) → ((event_at mixed x).clock ≡ [] → ⊥) → length (event_at mixed x).clock ≡ length mixed
      wide one not_empty = elim one.width [
        | inl width ↦ width ∙ sym (length-with_batch filled batch)
        | inr none ↦ absurd (not_empty none)
      ]
