-- Falls go by processes and assignments: clocks make no difference.
use Rattle.std.proofs.Common.{◌≡◌, ℕ, zero, suc, ℤ, pos, int_lt, List, [], ◌∷◌, ◌++◌, length, map, take, get_or, set, refl, ap, sym, ◌∙◌}
use Rattle.std.specs.Prelude.{Some, if◌then◌else◌}
use Rattle.std.specs.List.{list_any}
use Rattle.std.proofs.lemmas.List.{map-set, map-append, length-map}
use Rattle.run_model.specs.Run as run
use Rattle.run_model.specs.Run.{Name, process_at, value_of, assigned, state_from}
use Rattle.event_log.specs.declared.log.Binding.{Binding}
use Rattle.event_log.specs.declared.log.Event.{Event}
use Rattle.event_log.specs.States.{StatesView, processes_of, event_of, variable_of, assignment_of}
use Rattle.channel_preds.specs.Channels.{events_at}
use Rattle.counter_preds.specs.declared.values.Variable.{Variable}
use Rattle.counter_preds.specs.Counters.{value_in}
use Rattle.counter_preds.specs.Falls.{value_now, behind_event, is_lowered, fall_of, fall_fault}
use Rattle.counter_preds.specs.Falls.{without_clock, without_clocks}

-- the states without clocks
abbrev clockless : StatesView → StatesView
clockless states = record { header = states.header; events = map without_clocks states.events }

-- ---- values

same_state : (state : List ℤ) (events : List Event) (a : ℕ) → state_from state (take a (map event_of events)) ≡ state_from state (take a (map event_of (without_clocks events)))
unfolding state_from
same_state state events zero = refl
same_state state [] (suc a) = refl
same_state state (e ∷ rest) (suc a) = same_state (assigned state (map assignment_of e.assigns)) rest a

same_value : (names : List Name) (vars : List (List Binding)) (events : List (List Event)) (p a number : ℕ)
    → value_of (process_at (processes_of names vars events) p) a number ≡ value_of (process_at (processes_of names vars (map without_clocks events)) p) a number
same_value [] vars events p a number = refl
same_value (n ∷ names) [] events p a number = refl
same_value (n ∷ names) (v ∷ vars) [] p a number = refl
same_value (n ∷ names) (v ∷ vars) (es ∷ events) zero a number =
    ap (λ (s : List ℤ). get_or s number (pos 0)) (same_state (map (λ (w : run.Variable). w.value) (map variable_of v)) es a)
same_value (n ∷ names) (v ∷ vars) (es ∷ events) (suc p) a number = same_value names vars events p a number

clockless_at : (events : List (List Event)) (p : ℕ) → get_or (map without_clocks events) p [] ≡ without_clocks (get_or events p [])
clockless_at [] p = refl
clockless_at (es ∷ events) zero = refl
clockless_at (es ∷ events) (suc p) = clockless_at events p

same_now : (states : StatesView) (x : Variable) → value_now states x ≡ value_now (clockless states) x
same_now states x =
    same_value states.header.procs states.header.vars states.events x.process (length (events_at states x.process)) x.number
    ∙ ap (λ (n : ℕ). value_in (clockless states) x n) (sym (ap (λ (es : List Event). length es) (clockless_at states.events x.process) ∙ length-map (events_at states x.process) without_clock))

-- ---- one event, and a batch

abbrev with_events : StatesView → List (List Event) → StatesView
with_events states events = record { header = states.header; events = events }

clockless_behind : (states : StatesView) (e : Event) → clockless (behind_event states e) ≡ behind_event (clockless states) (without_clock e)
clockless_behind states e =
    ap (with_events states) (
    map-set without_clocks states.events e.process (events_at states e.process ++ e ∷ [])
    ∙ ap (set (map without_clocks states.events) e.process) (
    map-append without_clock (events_at states e.process) (e ∷ [])
    ∙ ap (λ (es : List Event). es ++ without_clock e ∷ []) (sym (clockless_at states.events e.process))))

same_lowered : (states : StatesView) (e : Event) (x : Variable) → is_lowered states e x ≡ is_lowered (clockless states) (without_clock e) x
same_lowered states e x =
    ap (λ (z : ℤ). int_lt z (value_now states x)) (same_now (behind_event states e) x ∙ ap (λ (s : StatesView). value_now s x) (clockless_behind states e))
    ∙ ap (λ (z : ℤ). int_lt (value_now (behind_event (clockless states) (without_clock e)) x) z) (same_now states x)

clockless_fall : (states : StatesView) (counters : List Variable) (batch : List Event) → fall_fault states counters batch ≡ fall_fault (clockless states) counters (without_clocks batch)
unfolding fall_fault
clockless_fall states counters [] = refl
clockless_fall states counters (e ∷ rest) =
    let later = clockless_fall (behind_event states e) counters rest ∙ ap (λ (s : StatesView). fall_fault s counters (without_clocks rest)) (clockless_behind states e) in
    λ i. if list_any (λ (x : Variable). same_lowered states e x i) counters then Some (fall_of e) else later i

pub same_fall : (states : StatesView) (counters : List Variable) (one other : List Event) → without_clocks other ≡ without_clocks one → fall_fault states counters other ≡ fall_fault states counters one
same_fall states counters one other same =
    clockless_fall states counters other ∙ ap (fall_fault (clockless states) counters) same ∙ sym (clockless_fall states counters one)
