-- Where no variable of a header falls in a batch, none of any list does: what isn't there stays 0.
use Rattle.std.proofs.Common.{◌≡◌, ℕ, pos, int_lt, Bool, true, false, List, [], ◌∷◌, length, get_or, Option, Some, None, refl, sym, ap, ap₂, ◌∙◌, arith, inl, inr}
use Rattle.std.specs.Prelude.{◌||◌, if◌then◌else◌}
use Rattle.std.specs.List.{list_any}
use Rattle.std.proofs.lemmas.Bool.{cases_lt, or_parts}
use Rattle.std.proofs.lemmas.List.{get_or_past, length-map, length-set}
use Rattle.run_model.specs.Run as run
use Rattle.run_model.specs.Run.{Name, Process, no_process, process_at, value_of}
use Rattle.event_log.specs.declared.item.LogFault.{LogFault}
use Rattle.event_log.specs.declared.log.Binding.{Binding}
use Rattle.event_log.specs.declared.log.Event.{Event}
use Rattle.event_log.specs.States.{StatesView, AreWhole, trace_of}
use Rattle.event_log.proofs.NameNumbers.{names_are, variables_are}
use Rattle.channel_preds.specs.Channels.{events_at}
use Rattle.counter_preds.specs.declared.values.Variable.{Variable}
use Rattle.counter_preds.specs.Counters.{IsVariable, value_in}
use Rattle.counter_preds.specs.Falls.{is_lowered, behind_event, fall_of, fall_fault}
use Rattle.counter_preds.proofs.Behind.{whole_behind}
use Rattle.counter_preds.proofs.Staying.{none_without}
use Rattle.log_rules.proofs.Rising.{value_absent}

none_here : (b : Bool) (fault : LogFault) (rest : Option LogFault) → (if b then Some fault else rest) ≡ None → (b ≡ false) × (rest ≡ None)
none_here true fault rest none = cc
none_here false fault rest none = (refl, none)

-- one variable and the others
joined : (states : StatesView) (x : Variable) (xs : List Variable) (batch : List Event) → fall_fault states (x ∷ []) batch ≡ None → fall_fault states xs batch ≡ None → fall_fault states (x ∷ xs) batch ≡ None
unfolding fall_fault
joined states x xs [] one others = refl
joined states x xs (e ∷ rest) one others =
    let here = none_here (is_lowered states e x || false) (fall_of e) (fall_fault (behind_event states e) (x ∷ []) rest) one in
    let there = none_here (list_any (is_lowered states e) xs) (fall_of e) (fall_fault (behind_event states e) xs rest) others in
    let lowered = (or_parts (is_lowered states e x) false here.0).0 in
    rw (lowered, there.0) (joined (behind_event states e) x xs rest here.1 there.1)

-- ---- a variable that isn't there

absent_value : (states : StatesView) → AreWhole states → (x : Variable) → (IsVariable states x → ⊥) → (a : ℕ) → value_in states x a ≡ pos 0
absent_value states whole x none a = elim (cases_lt x.process (length states.events)) [
  | inr past ↦
      let long : length (trace_of states) ≡ length states.header.procs =
      sym (length-map (trace_of states) (λ (p : Process). p.name)) ∙ ap (λ (ns : List Name). length ns) (names_are states whole.header.vars whole.events) in
      ap (λ (p : Process). value_of p a x.number) (get_or_past (trace_of states) x.process no_process (omega (arith, past, long, whole.events)))
      ∙ value_absent no_process a x.number (omega arith)
  | inl there ↦ elim (cases_lt x.number (length (get_or states.header.vars x.process []))) [
    | inl has ↦ absurd (none (record { process = there; variable = has }))
    | inr past ↦
        let count : length (process_at (trace_of states) x.process).variables ≡ length (get_or states.header.vars x.process []) =
        sym (length-map (process_at (trace_of states) x.process).variables (λ (v : run.Variable). v.name))
        ∙ ap (λ (ns : List Name). length ns) (variables_are states x.process whole.header.vars whole.events there)
        ∙ length-map (get_or states.header.vars x.process []) (λ (b : Binding). b.name) in
        value_absent (process_at (trace_of states) x.process) a x.number (omega (arith, past, count))
  ]
]

absent_none : (states : StatesView) → AreWhole states → (x : Variable) → (IsVariable states x → ⊥) → (batch : List Event) → fall_fault states (x ∷ []) batch ≡ None
unfolding fall_fault
absent_none states whole x none [] = refl
absent_none states whole x none (e ∷ rest) =
    let after = behind_event states e in
    let long : length after.events ≡ length states.events = length-set states.events e.process _ in
    let none_after : IsVariable after x → ⊥ = λ is. none (record { process = omega (arith, is.process, long); variable = is.variable }) in
    let lowered : is_lowered states e x ≡ false =
    ap₂ int_lt (absent_value after (whole_behind states e whole) x none_after (length (events_at after x.process))) (absent_value states whole x none (length (events_at states x.process))) in
    rw lowered (absent_none after (whole_behind states e whole) x none_after rest)

pub none_falls : (states : StatesView) → AreWhole states → (batch : List Event) → ((x : Variable) → IsVariable states x → fall_fault states (x ∷ []) batch ≡ None)
    → (xs : List Variable) → fall_fault states xs batch ≡ None
none_falls states whole batch each [] = none_without states batch
none_falls states whole batch each (x ∷ xs) = joined states x xs batch (one x) (none_falls states whole batch each xs)
  where
    one : (y : Variable) → fall_fault states (y ∷ []) batch ≡ None
    one y = elim (cases_lt y.process (length states.events)) [
      | inr past ↦ absent_none states whole y (λ is. absurd (omega (arith, past, is.process))) batch
      | inl there ↦ elim (cases_lt y.number (length (get_or states.header.vars y.process []))) [
        | inr past ↦ absent_none states whole y (λ is. absurd (omega (arith, past, is.variable))) batch
        | inl has ↦ each y (record { process = there; variable = has })
      ]
    ]
