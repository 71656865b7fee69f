-- The assignments of a folded log are to variables that it has.
use Rattle.std.proofs.Common.{◌≡◌, ℕ, zero, suc, ◌+◌, List, [], ◌∷◌, get_or, map, filter, refl, sym, ap, ◌∙◌, subst, arith, inl, inr}
use Rattle.std.specs.List.{AllByRecursion}
use Rattle.std.proofs.lemmas.Bool.{cases_Bool, cond-true, cond-false}
use Rattle.run_model.specs.Run as run
use Rattle.kept_runs.specs.Chosen.{chosen, new_number}
use Rattle.kept_runs.specs.Kept.{Names, is_kept_variable}
use Rattle.kept_runs.proofs.Chosen.{number_within}
use Rattle.event_log.specs.declared.log.Assign.{Assign}
use Rattle.event_log.specs.declared.log.Binding.{Binding}
use Rattle.event_log.specs.declared.log.Event.{Event}
use Rattle.event_log.specs.declared.log.Log.{Log}
use Rattle.event_log.specs.LogText.{AssignFits}
use Rattle.event_log.specs.Numbers.{variables_at}
use Rattle.event_log.specs.States.{trace_of_log}
use Rattle.kept_log.specs.Kept.{kept_assigns, kept_here, kept_vars, kept_log}

module _ (trace : run.Trace) (names : Names) where
  vars_from : (i : ℕ) (vars : List (List Binding)) (p : ℕ) → get_or (kept_vars trace names i vars) p [] ≡ chosen (is_kept_variable trace names (i + p)) (get_or vars p [])
  unfolding kept_vars chosen
  vars_from i [] p = refl
  vars_from i (v ∷ vars) zero = ap (λ (q : ℕ). chosen (is_kept_variable trace names q) v) (omega arith)
  vars_from i (v ∷ vars) (suc p) = vars_from (suc i) vars p ∙ ap (λ (q : ℕ). chosen (is_kept_variable trace names q) (get_or vars p [])) (omega arith)

  vars_at : (vars : List (List Binding)) (p : ℕ) → variables_at (kept_vars trace names 0 vars) p ≡ chosen (is_kept_variable trace names p) (variables_at vars p)
  vars_at vars p = vars_from 0 vars p ∙ ap (λ (q : ℕ). chosen (is_kept_variable trace names q) (get_or vars p [])) (omega arith)

  each_fits : (p : ℕ) (bindings : List Binding) (xs : List Assign) → AllByRecursion (AssignFits bindings) xs → AllByRecursion (AssignFits (chosen (is_kept_variable trace names p) bindings)) (kept_assigns trace names p xs)
  each_fits p bindings [] all = tt
  each_fits p bindings (a ∷ xs) all =
      let t = is_kept_variable trace names p in
      let rest = filter (λ (b : Assign). t b.variable) xs in
      let renumbered : Assign → Assign = λ (b : Assign). record b { variable = new_number t b.variable } in
      elim (cases_Bool (t a.variable)) [
        | inl on ↦
            subst (λ (ys : List Assign). AllByRecursion (AssignFits (chosen t bindings)) (map renumbered ys)) (sym (cond-true (t a.variable) (a ∷ rest) rest on))
            (record { variable = number_within t bindings a.variable on all.0.variable; value = all.0.value }, each_fits p bindings xs all.1)
        | inr off ↦
            subst (λ (ys : List Assign). AllByRecursion (AssignFits (chosen t bindings)) (map renumbered ys)) (sym (cond-false (t a.variable) (a ∷ rest) rest off))
            (each_fits p bindings xs all.1)
      ]

pub assigns_fit : (log : Log) (names : Names) (e : Event) → AllByRecursion (AssignFits (variables_at log.header.vars e.process)) e.assigns
    → AllByRecursion (AssignFits (variables_at (kept_log log names).header.vars e.process)) (kept_here (trace_of_log log) names e).assigns
assigns_fit log names e all =
    subst (λ (bindings : List Binding). AllByRecursion (AssignFits bindings) (kept_assigns (trace_of_log log) names e.process e.assigns)) (sym (vars_at (trace_of_log log) names log.header.vars e.process))
    (each_fits (trace_of_log log) names e.process (variables_at log.header.vars e.process) e.assigns all)
