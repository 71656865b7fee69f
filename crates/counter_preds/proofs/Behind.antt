-- The value of a variable behind one event more, by the event's assignments.
use Rattle.std.proofs.Common.{◌≡◌, ℕ, ◌+◌, ◌<◌, ◌≤◌, ◌==◌, ℤ, pos, List, [], ◌∷◌, ◌++◌, length, map, take, get_or, set, inl, inr, refl, ap, sym, ◌∙◌, arith, append-nil, length-append}
use Rattle.std.specs.Prelude.{if◌then◌else◌}
use Rattle.std.proofs.lemmas.Bool.{cases_Bool, cases_eq, cases_lt, cond-true, cond-false, eqb-true, eqb-false}
use Rattle.std.proofs.lemmas.List.{length-set, length-map, take_all, take_more, get_or-set_same, get_or-set_other, set_past}
use Rattle.run_model.specs.Run as run
use Rattle.run_model.specs.Run.{assigned, state_from}
use Rattle.event_log.specs.declared.log.Assign.{Assign}
use Rattle.event_log.specs.declared.log.Event.{Event}
use Rattle.event_log.specs.declared.log.Header.{Header}
use Rattle.event_log.specs.States.{StatesView, AreWhole, with_event, with_batch, event_of, variable_of, assignment_of}
use Rattle.event_log.proofs.Growing.{with_batch-push}
use Rattle.event_log.proofs.Histories.{length-assigned}
use Rattle.channel_preds.specs.Channels.{events_at}
use Rattle.counter_preds.specs.declared.values.Variable.{Variable}
use Rattle.counter_preds.specs.Counters.{IsVariable}
use Rattle.counter_preds.specs.Truth.{HasMoreEvents}
use Rattle.counter_preds.specs.Falls.{value_now, behind_event, behind_batch}
use Rattle.counter_preds.specs.inside.Falls.{assigned_value, left_by}
use Rattle.counter_preds.proofs.Growing.{opening_in, value_behind, value_by}

-- ---- assignments

value_set : (number : ℕ) (state : List ℤ) (a : Assign) → number < length state
    → get_or (set state a.variable a.value) number (pos 0) ≡ (if a.variable == number then a.value else get_or state number (pos 0))
value_set number state a there = elim (cases_Bool (a.variable == number)) [
  | inl same ↦
      ap (λ (i : ℕ). get_or (set state i a.value) number (pos 0)) (eqb-true a.variable number same)
      ∙ get_or-set_same state number a.value (pos 0) there
      ∙ sym (cond-true (a.variable == number) a.value (get_or state number (pos 0)) same)
  | inr other ↦
      get_or-set_other state a.variable number a.value (pos 0) (λ same. eqb-false a.variable number other (sym same))
      ∙ sym (cond-false (a.variable == number) a.value (get_or state number (pos 0)) other)
]

value_assigned : (number : ℕ) (state : List ℤ) (as_ : List Assign) → number < length state
    → get_or (assigned state (map assignment_of as_)) number (pos 0) ≡ assigned_value number (get_or state number (pos 0)) as_
unfolding assigned
value_assigned number state [] there = refl
value_assigned number state (a ∷ rest) there =
    value_assigned number (set state a.variable a.value) rest (omega (arith, there, length-set state a.variable a.value))
    ∙ ap (λ (z : ℤ). assigned_value number z rest) (value_set number state a there)

length-state_from : (state : List ℤ) (events : List run.Event) → length (state_from state events) ≡ length state
unfolding state_from
length-state_from state [] = refl
length-state_from state (e ∷ rest) = length-state_from (assigned state e.assigns) rest ∙ length-assigned state e.assigns

state_from-push : (state : List ℤ) (events : List Event) (e : Event)
    → state_from state (map event_of (events ++ e ∷ [])) ≡ assigned (state_from state (map event_of events)) (map assignment_of e.assigns)
unfolding state_from
state_from-push state [] e = refl
state_from-push state (f ∷ rest) e = state_from-push (assigned state (map assignment_of f.assigns)) rest e

length-opening : (h : Header) (x : Variable) → length (opening_in h x) ≡ length (get_or h.vars x.process [])
length-opening h x =
    length-map (map variable_of (get_or h.vars x.process [])) (λ (v : run.Variable). v.value)
    ∙ length-map (get_or h.vars x.process []) variable_of

value_behind-push : (h : Header) (x : Variable) (events : List Event) (e : Event) → x.number < length (get_or h.vars x.process [])
    → value_behind h x (events ++ e ∷ []) ≡ assigned_value x.number (value_behind h x events) e.assigns
value_behind-push h x events e there =
    let state = state_from (opening_in h x) (map event_of events) in
    ap (λ (s : List ℤ). get_or s x.number (pos 0)) (state_from-push (opening_in h x) events e)
    ∙ value_assigned x.number state e.assigns (omega (arith, there, length-state_from (opening_in h x) (map event_of events), length-opening h x))

-- ---- the states with an event more

pub whole_behind : (states : StatesView) (e : Event) → AreWhole states → AreWhole (behind_event states e)
whole_behind states e whole = record { header = whole.header; events = length-set states.events e.process _ ∙ whole.events }

pub variable_behind : (states : StatesView) (e : Event) (x : Variable) → IsVariable states x → IsVariable (behind_event states e) x
variable_behind states e x is = record { process = omega (arith, is.process, length-set states.events e.process (events_at states e.process ++ e ∷ [])); variable = is.variable }

-- the events of each process are the old ones, with the new one behind them on its own process
pub more_behind : (states : StatesView) (e : Event) → HasMoreEvents states (behind_event states e)
more_behind states e = record {
  header = refl;
  each = λ p. elim (cases_eq p e.process) [
    | inl same ↦ elim (cases_lt e.process (length states.events)) [
      | inl there ↦ (
        e ∷ [],
        ap (λ (i : ℕ). get_or (with_event states.events e) i []) same
            ∙ get_or-set_same states.events e.process _ [] there
            ∙ ap (λ (i : ℕ). events_at states i ++ e ∷ []) (sym same),
      )
      | inr past ↦ (
        [],
        ap (λ (ess : List (List Event)). get_or ess p []) (set_past states.events e.process _ past) ∙ sym (append-nil (events_at states p)),
      )
    ]
    | inr other ↦ ([], get_or-set_other states.events e.process p _ [] other ∙ sym (append-nil (events_at states p)))
  ];
}

-- one event more at most
pub length-events_behind : (states : StatesView) (e : Event) (p : ℕ) → length (events_at (behind_event states e) p) ≤ length (events_at states p) + 1
length-events_behind states e p = elim (cases_eq p e.process) [
  | inl same ↦ elim (cases_lt e.process (length states.events)) [
    | inl there ↦
        let here : events_at (behind_event states e) p ≡ events_at states p ++ e ∷ [] =
        ap (λ (i : ℕ). get_or (with_event states.events e) i []) same
        ∙ get_or-set_same states.events e.process _ [] there
        ∙ ap (λ (i : ℕ). events_at states i ++ e ∷ []) (sym same) in
        omega (arith, ap (λ (es : List Event). length es) here, length-append (events_at states p) (e ∷ []))
    | inr past ↦
        omega (arith, ap (λ (ess : List (List Event)). length (get_or ess p [])) (set_past states.events e.process (events_at states e.process ++ e ∷ []) past))
  ]
  | inr other ↦ omega (arith, ap (λ (es : List Event). length es) (get_or-set_other states.events e.process p (events_at states e.process ++ e ∷ []) [] other))
]

-- ---- the value behind the event

pub value_now_by : (states : StatesView) → AreWhole states → (x : Variable) → IsVariable states x → value_now states x ≡ value_behind states.header x (events_at states x.process)
value_now_by states whole x is =
    value_by states whole x is (length (events_at states x.process))
    ∙ ap (value_behind states.header x) (take_all (length (events_at states x.process)) (events_at states x.process) (omega arith))

-- the value behind an event is the one that it leaves
pub value_left : (states : StatesView) → AreWhole states → (x : Variable) → IsVariable states x → (e : Event) → value_now (behind_event states e) x ≡ left_by e x (value_now states x)
value_left states whole x is e =
    value_now_by (behind_event states e) (whole_behind states e whole) x (variable_behind states e x is)
    ∙ elim (cases_Bool (e.process == x.process)) [
      | inl same ↦
          let at : e.process ≡ x.process = eqb-true e.process x.process same in
          let there : e.process < length states.events = omega (arith, at, is.process) in
          let events : events_at (behind_event states e) x.process ≡ events_at states x.process ++ e ∷ [] =
          ap (λ (i : ℕ). get_or (with_event states.events e) i []) (sym at)
          ∙ get_or-set_same states.events e.process _ [] there
          ∙ ap (λ (i : ℕ). events_at states i ++ e ∷ []) at in
          ap (value_behind states.header x) events
          ∙ value_behind-push states.header x (events_at states x.process) e is.variable
          ∙ ap (λ (z : ℤ). assigned_value x.number z e.assigns) (sym (value_now_by states whole x is))
          ∙ sym (cond-true (e.process == x.process) (assigned_value x.number (value_now states x) e.assigns) (value_now states x) same)
      | inr other ↦
          ap (value_behind states.header x) (get_or-set_other states.events e.process x.process _ [] (λ same. eqb-false e.process x.process other (sym same)))
          ∙ sym (value_now_by states whole x is)
          ∙ sym (cond-false (e.process == x.process) (assigned_value x.number (value_now states x) e.assigns) (value_now states x) other)
    ]

-- ---- the states with the first events of a batch more

pub whole_behind_batch : (states : StatesView) (batch : List Event) → AreWhole states → AreWhole (behind_batch states batch)
unfolding with_batch
whole_behind_batch states [] whole = whole
whole_behind_batch states (e ∷ rest) whole = whole_behind_batch (behind_event states e) rest (whole_behind states e whole)

pub variable_behind_batch : (states : StatesView) (batch : List Event) (x : Variable) → IsVariable states x → IsVariable (behind_batch states batch) x
unfolding with_batch
variable_behind_batch states [] x is = is
variable_behind_batch states (e ∷ rest) x is = variable_behind_batch (behind_event states e) rest x (variable_behind states e x is)

-- the value behind the event of a number, from the value before it
pub next_value : (states : StatesView) → AreWhole states → (x : Variable) → IsVariable states x → (batch : List Event) (k : ℕ) (e : Event) → k < length batch → e ≡ get_or batch k e
    → value_now (behind_batch states (take (k + 1) batch)) x ≡ left_by e x (value_now (behind_batch states (take k batch)) x)
next_value states whole x is batch k e there at =
    let before = behind_batch states (take k batch) in
    let split : take (k + 1) batch ≡ take k batch ++ e ∷ [] = take_more batch k e there ∙ ap (λ (f : Event). take k batch ++ f ∷ []) (sym at) in
    let step : behind_batch states (take (k + 1) batch) ≡ behind_event before e =
    ap (behind_batch states) split ∙ ap (λ (ess : List (List Event)). let s : StatesView = record { header = states.header; events = ess } in s) (with_batch-push states.events (take k batch) e) in
    ap (λ (s : StatesView). value_now s x) step
    ∙ value_left before (whole_behind_batch states (take k batch) whole) x (variable_behind_batch states (take k batch) x is) e
