-- What is named by numbers is what is named by names.
use Rattle.std.proofs.Common.{◌≡◌, ℕ, suc, Bool, ◌&&◌, ◌||◌, List, [], ◌∷◌, map, refl, sym, ap, ◌∙◌, inl, inr}
use Rattle.std.specs.Prelude.{◌==◌}
use Rattle.std.specs.List.{list_any, filter}
use Rattle.std.proofs.lemmas.Bool.{cases_Bool, eqb-true}
use Rattle.run_model.specs.Run as run
use Rattle.kept_runs.specs.Kept as kept
use Rattle.kept_runs.specs.Kept.{Names, process_number, variable_number}
use Rattle.event_log.specs.declared.log.Assign.{Assign}
use Rattle.event_log.specs.declared.log.Kind.{Kind}
use Rattle.event_log.specs.declared.log.Kind.TheVariants as kind
use Rattle.event_log.specs.declared.log.Event.{Event}
use Rattle.event_log.specs.States.{event_of, kind_of, assignment_of}
use Rattle.event_log.specs.declared.log.Binding.{Binding}
use Rattle.kept_runs.specs.Chosen.{chosen, new_number}
use Rattle.kept_log.specs.Kept.{is_kept_here, kept_assigns, kept_vars}
use Rattle.kept_log.specs.declared.numbers.Ends.{Ends}
use Rattle.kept_log.specs.declared.numbers.Numbers.{Numbers}
use Rattle.kept_log.specs.inside.Numbered as by

-- ---- the numbers of names in a run

abbrev pub variable_ends : run.Trace → kept.Pair → Ends
variable_ends trace x = record {
  first = process_number trace x.first;
  second = variable_number (run.process_at trace (process_number trace x.first)) x.second;
}

abbrev pub channel_ends : run.Trace → kept.Pair → Ends
channel_ends trace x = record { first = process_number trace x.first; second = process_number trace x.second }

abbrev pub numbers_of : run.Trace → Names → Numbers
numbers_of trace names = record {
  variables = map (variable_ends trace) names.variables;
  channels = map (channel_ends trace) names.channels;
  processes = map (process_number trace) names.processes;
}

-- ---- what they tell of an event

pub any_mapped : {A B : Type 0} (f : A → B) (p : B → Bool) (q : A → Bool) → ((x : A) → p (f x) ≡ q x) → (xs : List A) → list_any p (map f xs) ≡ list_any q xs
any_mapped f p q same [] = refl
any_mapped f p q same (x ∷ xs) = λ i. same x i || any_mapped f p q same xs i

send_same : (q : ℕ) (k : Kind) → by.is_send_to q k ≡ run.is_send_to q (kind_of k)
send_same q kind.Internal = refl
send_same q (kind.Send to id) = refl
send_same q (kind.Receive sender id) = refl

receipt_same : (q : ℕ) (k : Kind) → by.is_receipt_from q k ≡ run.is_receipt_from q (kind_of k)
receipt_same q kind.Internal = refl
receipt_same q (kind.Send to id) = refl
receipt_same q (kind.Receive sender id) = refl

module _ (trace : run.Trace) (names : Names) (e : Event) where
  on_same : (x : kept.Pair) → by.is_on e (channel_ends trace x) ≡ kept.is_on trace e.process (event_of e) x
  on_same x = λ i. ((process_number trace x.first == e.process) && send_same (process_number trace x.second) e.kind i)
      || ((process_number trace x.second == e.process) && receipt_same (process_number trace x.first) e.kind i)

  pub open_same : by.is_open (numbers_of trace names) e ≡ kept.is_on_some trace names e.process (event_of e)
  open_same = any_mapped (channel_ends trace) (by.is_on e) (kept.is_on trace e.process (event_of e)) on_same names.channels

  among_same : (v : ℕ) (xs : List Assign) → by.is_among xs v ≡ list_any (λ (a : run.Assignment). a.variable == v) (map assignment_of xs)
  among_same v xs = sym (any_mapped assignment_of (λ (a : run.Assignment). a.variable == v) (λ (a : Assign). a.variable == v) (λ a. refl) xs)

  assigns_same : (x : kept.Pair) → by.assigns_to e (variable_ends trace x) ≡ kept.assigns trace e.process (event_of e) x
  assigns_same x = elim (cases_Bool (process_number trace x.first == e.process)) [
    | inl here ↦
        let at : process_number trace x.first ≡ e.process = eqb-true (process_number trace x.first) e.process here in
        ap (λ (b : Bool). b && by.is_among e.assigns (variable_number (run.process_at trace (process_number trace x.first)) x.second)) here
        ∙ ap (λ (p : ℕ). by.is_among e.assigns (variable_number (run.process_at trace p) x.second)) at
        ∙ among_same (variable_number (run.process_at trace e.process) x.second) e.assigns
        ∙ sym (ap (λ (b : Bool). b && list_any (λ (a : run.Assignment). a.variable == variable_number (run.process_at trace e.process) x.second) (map assignment_of e.assigns)) here)
    | inr other ↦
        ap (λ (b : Bool). b && by.is_among e.assigns (variable_number (run.process_at trace (process_number trace x.first)) x.second)) other
        ∙ sym (ap (λ (b : Bool). b && list_any (λ (a : run.Assignment). a.variable == variable_number (run.process_at trace e.process) x.second) (map assignment_of e.assigns)) other)
  ]

  pub kept_same : by.is_kept (numbers_of trace names) e ≡ is_kept_here trace names e
  kept_same = λ i. (any_mapped (variable_ends trace) (by.assigns_to e) (kept.assigns trace e.process (event_of e)) assigns_same names.variables i || open_same i)
      || any_mapped (process_number trace) (λ p. p == e.process) (λ name. process_number trace name == e.process) (λ name. refl) names.processes i

-- ---- what they tell of a variable

module _ (trace : run.Trace) (names : Names) where
  named_same : (p v : ℕ) (x : kept.Pair) → ((process_number trace x.first == p) && ((variable_ends trace x).second == v)) ≡ ((process_number trace x.first == p) && (variable_number (run.process_at trace p) x.second == v))
  named_same p v x = elim (cases_Bool (process_number trace x.first == p)) [
    | inl here ↦
        let at : process_number trace x.first ≡ p = eqb-true (process_number trace x.first) p here in
        ap (λ (q : ℕ). (process_number trace x.first == p) && (variable_number (run.process_at trace q) x.second == v)) at
    | inr other ↦
        ap (λ (b : Bool). b && ((variable_ends trace x).second == v)) other
        ∙ sym (ap (λ (b : Bool). b && (variable_number (run.process_at trace p) x.second == v)) other)
  ]

  pub variable_same : (p v : ℕ) → by.is_kept_variable (numbers_of trace names) p v ≡ kept.is_kept_variable trace names p v
  variable_same p v = λ i. any_mapped (variable_ends trace) (λ (x : Ends). (x.first == p) && (x.second == v)) (λ (x : kept.Pair). (process_number trace x.first == p) && (variable_number (run.process_at trace p) x.second == v)) (named_same p v) names.variables i
      || any_mapped (process_number trace) (λ q. q == p) (λ name. process_number trace name == p) (λ name. refl) names.processes i

  pub assigned_same : (p : ℕ) (xs : List Assign) → by.assigns_by (numbers_of trace names) p xs ≡ kept_assigns trace names p xs
  assigned_same p xs = λ i. map (λ (a : Assign). record a { variable = new_number (λ v. variable_same p v i) a.variable }) (filter (λ (a : Assign). variable_same p a.variable i) xs)

  pub vars_same : (j : ℕ) (vars : List (List Binding)) → by.vars_by (numbers_of trace names) j vars ≡ kept_vars trace names j vars
  unfolding by.vars_by kept_vars
  vars_same j [] = refl
  vars_same j (bs ∷ vars) = λ i. chosen (λ v. variable_same j v i) bs ∷ vars_same (suc j) vars i
