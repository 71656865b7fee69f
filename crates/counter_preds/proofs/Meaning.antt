-- The values of a variable are those of the run, so that bounds on differences mean what formulas say.
use Rattle.std.proofs.Common.{◌≡◌, ◌↔◌, ℕ, zero, suc, ◌<◌, ◌≤◌, ◌⊎◌, ℤ, ◌-ℤ◌, ◌≤ℤ◌, List, [], ◌∷◌, length, map, take, get_or, inl, inr, refl, ap, sym, subst, ◌∙◌, arith}
use Rattle.std.specs.List.{AllByRecursion}
use Rattle.std.proofs.lemmas.Bool.{cases_lt}
use Rattle.std.proofs.lemmas.List.{length-map, take_all}
use Rattle.run_model.specs.Cut.{Cut, count, lengths}
use Rattle.run_model.specs.Run as run
use Rattle.run_model.specs.Run.{Name, Trace, Watches, process_at, clocks_of, run_of}
use Rattle.run_model.specs.Class.{NeverFalls}
use Rattle.run_model.specs.Consistent.{IsConsistent}
use Rattle.run_model.specs.Formula.{LessOrEqual, GreaterOrEqual, Difference}
use Rattle.run_model.specs.Meaning.{Sat, value_at as value_of_name}
use Rattle.event_log.specs.declared.log.Binding.{Binding}
use Rattle.event_log.specs.Numbers.{binding_names}
use Rattle.event_log.specs.States.{StatesView, AreWhole, AreNamedApart, trace_of, event_of}
use Rattle.event_log.proofs.NameNumbers.{names_are, number_again, variables_are}
use Rattle.pull_system.specs.Pulls.{ClosedUnder}
use Rattle.channel_preds.specs.Channels.{events_at}
use Rattle.channel_preds.specs.Truth.{run_in}
use Rattle.counter_preds.specs.declared.values.Variable.{Variable}
use Rattle.counter_preds.specs.Counters.{IsVariable, IsCounter, AreThere, value_in, values_of, value_at, value_within}
use Rattle.counter_preds.specs.Truth.{process_of, variable_of, at_most_pulls, at_least_pulls}
use Rattle.counter_preds.proofs.Tests.{le_holds, holds_le}
use Rattle.counter_preds.proofs.Along.{length-values_of, value_at-values_of}
use Rattle.counter_preds.proofs.Growing.{process_logged, value_behind, value_by}
use Rattle.counter_preds.proofs.Tables.{at_most_closes, at_least_closes}

-- ---- names and numbers

apart_at : (vars : List (List Binding)) (p : ℕ) → AllByRecursion AreNamedApart vars → p < length vars → AreNamedApart (get_or vars p [])
apart_at [] p all there = absurd (omega arith)
apart_at (v ∷ vars) zero all there = all.0
apart_at (v ∷ vars) (suc p) all there = apart_at vars p all.1 (omega arith)

process_number : (states : StatesView) (watches : Watches) → AreWhole states → (x : Variable) → IsVariable states x → (run_in states watches).process (process_of states x) ≡ x.process
process_number states watches whole x is =
    ap (run.number_of (process_of states x)) (names_are states whole.header.vars whole.events)
    ∙ number_again states.header.procs x.process whole.header.distinct (omega (arith, whole.events, is.process))

variable_number : (states : StatesView) → AreWhole states → (x : Variable) → IsVariable states x
    → run.number_of (variable_of states x) (map (λ (v : run.Variable). v.name) (process_at (trace_of states) x.process).variables) ≡ x.number
variable_number states whole x is =
    let bindings = get_or states.header.vars x.process [] in
    ap (run.number_of (variable_of states x)) (variables_are states x.process whole.header.vars whole.events is.process)
    ∙ number_again (binding_names bindings) x.number (apart_at states.header.vars x.process whole.header.variables (omega (arith, whole.events, whole.header.vars, is.process)))
    (omega (arith, is.variable, length-map bindings (λ (b : Binding). b.name)))

-- the value by its name is the value by its number
pub named_value : (states : StatesView) (watches : Watches) → AreWhole states → (x : Variable) → IsVariable states x → (a : ℕ)
    → (run_in states watches).value ((run_in states watches).process (process_of states x)) (variable_of states x) a ≡ value_in states x a
named_value states watches whole x is a =
    ap (λ (i : ℕ). (run_in states watches).value i (variable_of states x) a) (process_number states watches whole x is)
    ∙ ap (λ (k : ℕ). run.value_of (process_at (trace_of states) x.process) a k) (variable_number states whole x is)

value_at_cut : (states : StatesView) (watches : Watches) → AreWhole states → (x : Variable) → IsVariable states x → (c : Cut)
    → value_of_name (run_in states watches) (process_of states x) (variable_of states x) c ≡ value_within states x c
value_at_cut states watches whole x is c =
    named_value states watches whole x is (count c ((run_in states watches).process (process_of states x)))
    ∙ ap (λ (i : ℕ). value_in states x (count c i)) (process_number states watches whole x is)

-- ---- cuts

lengths_are : (t : Trace) (i : ℕ) → get_or (lengths (clocks_of t)) i 0 ≡ length (process_at t i).events
unfolding lengths
lengths_are [] i = refl
lengths_are (x ∷ t) zero = length-map x.events (λ (e : run.Event). e.clock)
lengths_are (x ∷ t) (suc i) = lengths_are t i

event_count : (states : StatesView) → AreWhole states → (p : ℕ) → p < length states.events → length (process_at (trace_of states) p).events ≡ length (events_at states p)
event_count states whole p there = ap (λ (x : run.Process). length x.events) (process_logged states whole p there) ∙ length-map (events_at states p) event_of

cut_within : (states : StatesView) → AreWhole states → (p : ℕ) → p < length states.events → (c : Cut) → IsConsistent (clocks_of (trace_of states)) c → count c p ≤ length (events_at states p)
cut_within states whole p there c consistent = omega (arith, consistent.within p, lengths_are (trace_of states) p, event_count states whole p there)

are_there : (states : StatesView) → AreWhole states → (left right : Variable) → IsVariable states left → IsVariable states right → (c : Cut) → IsConsistent (clocks_of (trace_of states)) c → AreThere states left right c
are_there states whole left right l r c consistent = record {
  at_left = cut_within states whole left.process l.process c consistent;
  at_right = cut_within states whole right.process r.process c consistent;
}

-- ---- bounds

difference_is : (states : StatesView) (watches : Watches) → AreWhole states → (left right : Variable) → IsVariable states left → IsVariable states right → (c : Cut)
    → (value_of_name (run_in states watches) (process_of states left) (variable_of states left) c -ℤ value_of_name (run_in states watches) (process_of states right) (variable_of states right) c)
    ≡ (value_within states left c -ℤ value_within states right c)
difference_is states watches whole left right l r c =
    ap (λ (z : ℤ). z -ℤ value_of_name (run_in states watches) (process_of states right) (variable_of states right) c) (value_at_cut states watches whole left l c)
    ∙ ap (λ (z : ℤ). value_within states left c -ℤ z) (value_at_cut states watches whole right r c)

pub at_most_means : (states : StatesView) (watches : Watches) (left right : Variable) (k : ℤ) → AreWhole states → IsVariable states left → IsVariable states right → IsCounter states left → IsCounter states right
    → (c : Cut) → IsConsistent (clocks_of (trace_of states)) c
    → ClosedUnder (at_most_pulls states left right k) c ↔ Sat (run_in states watches) (Difference (process_of states left) (variable_of states left) (process_of states right) (variable_of states right) LessOrEqual k) c
at_most_means states watches left right k whole l r rising after c consistent =
    let close = at_most_closes states left right k rising after (at_most_pulls states left right k) refl c (are_there states whole left right l r c consistent) in
    let same = difference_is states watches whole left right l r c in (
      λ closed. le_holds _ k (subst (λ z. z ≤ℤ k) (sym same) (close.0 closed)),
      λ true_. close.1 (subst (λ z. z ≤ℤ k) same (holds_le _ k true_)),
    )

pub at_least_means : (states : StatesView) (watches : Watches) (left right : Variable) (k : ℤ) → AreWhole states → IsVariable states left → IsVariable states right → IsCounter states left → IsCounter states right
    → (c : Cut) → IsConsistent (clocks_of (trace_of states)) c
    → ClosedUnder (at_least_pulls states left right k) c ↔ Sat (run_in states watches) (Difference (process_of states left) (variable_of states left) (process_of states right) (variable_of states right) GreaterOrEqual k) c
at_least_means states watches left right k whole l r rising after c consistent =
    let close = at_least_closes states left right k rising after (at_least_pulls states left right k) refl c (are_there states whole left right l r c consistent) in
    let same = difference_is states watches whole left right l r c in (
      λ closed. le_holds k _ (subst (λ z. k ≤ℤ z) (sym same) (close.0 closed)),
      λ true_. close.1 (subst (λ z. k ≤ℤ z) same (holds_le k _ true_)),
    )

-- ---- counters never fall

-- past the last event the value stays
value_past : (states : StatesView) → AreWhole states → (x : Variable) → IsVariable states x → (a : ℕ) → length (events_at states x.process) ≤ a → value_in states x a ≡ value_in states x (length (events_at states x.process))
value_past states whole x is a past =
    let n = length (events_at states x.process) in
    let all : take a (events_at states x.process) ≡ take n (events_at states x.process) = take_all a (events_at states x.process) past ∙ sym (take_all n (events_at states x.process) (omega arith)) in
    value_by states whole x is a
    ∙ ap (value_behind states.header x) all
    ∙ sym (value_by states whole x is n)

least_place : (states : StatesView) → AreWhole states → (x : Variable) → IsVariable states x → (a : ℕ) → (b : ℕ) × (b ≤ length (events_at states x.process)) × (b ≤ a) × ((a ≤ b) ⊎ (length (events_at states x.process) ≤ b)) × (value_in states x a ≡ value_at (values_of states x) b)
least_place states whole x is a = elim (cases_lt (length (events_at states x.process)) a) [
  | inl past ↦ (
    length (events_at states x.process),
    omega arith,
    omega (arith, past),
    inr (omega arith),
    value_past states whole x is a (omega (arith, past)) ∙ sym (value_at-values_of states x (length (events_at states x.process)) (omega arith)),
  )
  | inr le ↦ (a, le, omega arith, inl (omega arith), sym (value_at-values_of states x a le))
]

pub never_falls : (states : StatesView) (watches : Watches) (x : Variable) → AreWhole states → IsVariable states x → IsCounter states x → NeverFalls (run_in states watches) (process_of states x) (variable_of states x)
never_falls states watches x whole is rising a b up =
    let low = least_place states whole x is a in
    let high = least_place states whole x is b in
    let order : low.0 ≤ high.0 = elim high.3 [ inl at ↦ omega (arith, at, up, low.2) | inr end ↦ omega (arith, end, low.1) ] in
    let rises = rising.rises low.0 high.0 order (omega (arith, high.1, length-values_of states x)) in
    subst (λ z. z ≤ℤ (run_in states watches).value ((run_in states watches).process (process_of states x)) (variable_of states x) b) (sym (named_value states watches whole x is a ∙ low.4))
    (subst (λ z. value_at (values_of states x) low.0 ≤ℤ z) (sym (named_value states watches whole x is b ∙ high.4)) rises)
