-- The events of each process, as batches come.
use Rattle.std.proofs.Common.{◌≡◌, ◌⊎◌, ℕ, zero, suc, ◌+◌, ◌-◌, ◌<◌, ◌≤◌, Bool, true, false, List, [], ◌∷◌, ◌++◌, length, get_or, refl, sym, ap, ◌∙◌, subst, arith, inl, inr, length-append, append_assoc, append-nil}
use Rattle.std.specs.Prelude.{◌==◌, Option, None, Some, if◌then◌else◌}
use Rattle.std.specs.Option.{option_map}
use Rattle.std.specs.List.{AllByRecursion}
use Rattle.std.proofs.lemmas.Option.{none-some, same_Some}
use Rattle.std.proofs.lemmas.Bool.{cases_eq, cases_lt, cond-true, cond-false, eq-eqb, ne_eqb}
use Rattle.std.proofs.lemmas.List.{length-set, get_or_append_left, get_or_past}
use Rattle.event_log.specs.declared.log.Event.{Event}
use Rattle.event_log.specs.States.{with_event, with_batch, with_batches}
use Rattle.vector_clock.specs.declared.message.Message.{Message}
use Rattle.vector_clock.specs.Events.{Events, own_events}
use Rattle.vector_clock.specs.Messages.{sends, first_place, first_send}
use Rattle.vector_clock.specs.Fill.{Place, IsThere, event_at, no_event}
use Rattle.vector_clock.proofs.Growth.{length-with_batch}
use Rattle.vector_clock.proofs.FirstPlaces.{own_same, own_other, first_le}

-- ---- a batch more

-- the events of one process
abbrev pub of_process : List Event → ℕ → List Event
of_process [] p = []
of_process (e ∷ es) p = if e.process == p then e ∷ of_process es p else of_process es p

pub of_here : (e : Event) (es : List Event) (p : ℕ) → e.process ≡ p → of_process (e ∷ es) p ≡ e ∷ of_process es p
of_here e es p same = cond-true (e.process == p) _ _ (eq-eqb e.process p same)

pub of_other : (e : Event) (es : List Event) (p : ℕ) → (e.process ≡ p → ⊥) → of_process (e ∷ es) p ≡ of_process es p
of_other e es p other = cond-false (e.process == p) _ _ (ne_eqb e.process p other)

pub of_all : (P : Event → Type 0) (es : List Event) (p : ℕ) → AllByRecursion P es → AllByRecursion P (of_process es p)
of_all P [] p all = tt
of_all P (e ∷ es) p all = elim (cases_eq e.process p) [
  | inl same ↦ subst (AllByRecursion P) (sym (of_here e es p same)) (all.0, of_all P es p all.1)
  | inr other ↦ subst (AllByRecursion P) (sym (of_other e es p other)) (of_all P es p all.1)
]

pub all_at : (P : Event → Type 0) (es : List Event) (k : ℕ) (d : Event) → AllByRecursion P es → k < length es → P (get_or es k d)
all_at P [] k d all lt = absurd (omega (arith, lt))
all_at P (e ∷ es) zero d all lt = all.0
all_at P (e ∷ es) (suc k) d all lt = all_at P es k d all.1 (omega (arith, lt))

pub own_event : (events : Events) (e : Event) (p : ℕ) → p < length events → e.process ≡ p → own_events (with_event events e) p ≡ own_events events p ++ e ∷ []
own_event events e p there same = subst (λ (q : ℕ). own_events (with_event events e) q ≡ own_events events q ++ e ∷ []) same (own_same events e (omega (arith, there, same)))

pub own_added : (events : Events) (batch : List Event) (p : ℕ) → p < length events → own_events (with_batch events batch) p ≡ own_events events p ++ of_process batch p
unfolding with_batch
own_added events [] p there = sym (append-nil (own_events events p))
own_added events (e ∷ es) p there =
    own_added (with_event events e) es p (omega (arith, there, length-set events e.process (own_events events e.process ++ e ∷ [])))
    ∙ elim (cases_eq e.process p) [
      | inl same ↦
          ap (λ (xs : List Event). xs ++ of_process es p) (own_event events e p there same)
          ∙ append_assoc (own_events events p) (e ∷ []) (of_process es p)
          ∙ ap (λ (xs : List Event). own_events events p ++ xs) (sym (of_here e es p same))
      | inr other ↦
          ap (λ (xs : List Event). xs ++ of_process es p) (own_other events e p (λ q. other (sym q)))
          ∙ ap (λ (xs : List Event). own_events events p ++ xs) (sym (of_other e es p other))
    ]

-- ---- events that grow

-- the events of each process are the old ones with more behind them
pub record Grows (old new : Events) : Type 0 where
  pub count : length new ≡ length old
  pub more : (p : ℕ) → (rest : List Event) × (own_events new p ≡ own_events old p ++ rest)

pub grows_none : (events : Events) → Grows events events
grows_none events = record { count = refl; more = λ p. ([], sym (append-nil (own_events events p))) }

pub grows_on : (one two three : Events) → Grows one two → Grows two three → Grows one three
grows_on one two three a b = record {
  count = b.count ∙ a.count;
  more = λ p.
      let x = a.more p in
      let y = b.more p in
      (x.0 ++ y.0, y.1 ∙ ap (λ (es : List Event). es ++ y.0) x.1 ∙ append_assoc (own_events one p) x.0 y.0);
}

pub grows_batch : (events : Events) (batch : List Event) → Grows events (with_batch events batch)
grows_batch events batch = record { count = count; more = more }
  where
    count : length (with_batch events batch) ≡ length events
    count = length-with_batch events batch

    more : (p : ℕ) → (rest : List Event) × (own_events (with_batch events batch) p ≡ own_events events p ++ rest)
    more p = elim (cases_lt p (length events)) [
      | inl there ↦ (of_process batch p, own_added events batch p there)
      | inr past ↦ ([], get_or_past (with_batch events batch) p [] (omega (arith, past, count)) ∙ sym (append-nil (own_events events p) ∙ get_or_past events p [] past))
    ]

pub grows_batches : (events : Events) (batches : List (List Event)) → Grows events (with_batches events batches)
grows_batches events [] = grows_none events
grows_batches events (batch ∷ rest) = grows_on events (with_batch events batch) (with_batches (with_batch events batch) rest) (grows_batch events batch) (grows_batches (with_batch events batch) rest)

pub own_longer : (old new : Events) (p : ℕ) → Grows old new → length (own_events old p) ≤ length (own_events new p)
own_longer old new p grows =
    let g = grows.more p in
    omega (arith, ap length g.1, length-append (own_events old p) g.0)

pub there_on : (old new : Events) (x : Place) → Grows old new → IsThere old x → IsThere new x
there_on old new x grows there =
    record { process = omega (arith, there.process, grows.count); first = there.first; last = omega (arith, there.last, own_longer old new x.process grows) }

pub event_on : (old new : Events) (x : Place) → Grows old new → IsThere old x → event_at new x ≡ event_at old x
event_on old new x grows there =
    let g = grows.more x.process in
    ap (λ (xs : List Event). get_or xs (x.position - 1) no_event) g.1 ∙ get_or_append_left (own_events old x.process) g.0 no_event (x.position - 1) (omega (arith, there.first, there.last))

-- an event is there or not
pub is_decided : (events : Events) (x : Place) → IsThere events x ⊎ (IsThere events x → ⊥)
is_decided events x = elim (cases_lt x.process (length events)) [
  | inr past ↦ inr (λ there. absurd (omega (arith, past, there.process)))
  | inl process ↦ elim (cases_lt 0 x.position) [
    | inr zero_ ↦ inr (λ there. absurd (omega (arith, zero_, there.first)))
    | inl first ↦ elim (cases_lt (length (own_events events x.process)) x.position) [
      | inl behind ↦ inr (λ there. absurd (omega (arith, behind, there.last)))
      | inr last ↦ inl (record { process = process; first = first; last = last })
    ]
  ]
]

-- where it isn't, but among events that grew, it stands behind those of its process
pub is_behind : (old new : Events) (x : Place) → Grows old new → (IsThere old x → ⊥) → IsThere new x → length (own_events old x.process) < x.position
is_behind old new x grows not there = elim (cases_lt (length (own_events old x.process)) x.position) [
  | inl behind ↦ behind
  | inr last ↦ absurd (not (record { process = omega (arith, there.process, grows.count); first = there.first; last = last }))
]

-- ---- the first sends

found_step : (b : Bool) (o whole : Option ℕ) (a : ℕ) → ((k : ℕ) → o ≡ Some k → whole ≡ Some k) → (if b then Some 1 else option_map (λ k. k + 1) o) ≡ Some a
    → (if b then Some 1 else option_map (λ k. k + 1) whole) ≡ Some a
found_step true o whole a on h = h
found_step false None whole a on h = absurd (none-some a h)
found_step false (Some k) whole a on h = ap (option_map (λ (n : ℕ). n + 1)) (on k refl) ∙ h

found_on : (test : Event → Bool) (es rest : List Event) (a : ℕ) → first_place test es ≡ Some a → first_place test (es ++ rest) ≡ Some a
unfolding first_place
found_on test [] rest a h = absurd (none-some a h)
found_on test (e ∷ es) rest a h = found_step (test e) (first_place test es) (first_place test (es ++ rest)) a (found_on test es rest) h

above_step : (b : Bool) (o : Option ℕ) (a : ℕ) → (if b then Some 1 else option_map (λ k. k + 1) o) ≡ Some a → 0 < a
above_step true o a h = let one : 1 ≡ a = same_Some 1 a h in omega arith
above_step false None a h = absurd (none-some a h)
above_step false (Some k) a h = let one : k + 1 ≡ a = same_Some (k + 1) a h in omega arith

first_above : (test : Event → Bool) (es : List Event) (a : ℕ) → first_place test es ≡ Some a → 0 < a
unfolding first_place
first_above test [] a h = absurd (none-some a h)
first_above test (e ∷ es) a h = above_step (test e) (first_place test es) a h

pub send_on : (old new : Events) (m : Message) (a : ℕ) → Grows old new → first_send old m ≡ Some a → first_send new m ≡ Some a
send_on old new m a grows is =
    let g = grows.more m.sender in
    ap (first_place (sends m)) g.1 ∙ found_on (sends m) (own_events old m.sender) g.0 a is

pub send_there : (events : Events) (m : Message) (a : ℕ) → first_send events m ≡ Some a → IsThere events (record { process = m.sender; position = a })
send_there events m a is = record { process = process; first = first; last = last }
  where
    first : 0 < a
    first = first_above (sends m) (own_events events m.sender) a is

    last : a ≤ length (own_events events m.sender)
    last = first_le (sends m) (own_events events m.sender) a is

    process : m.sender < length events
    process = elim (cases_lt m.sender (length events)) [
      | inl there ↦ there
      | inr past ↦ absurd (omega (arith, first, last, ap length (get_or_past events m.sender [] past)))
    ]
