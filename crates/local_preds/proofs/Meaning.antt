-- The truths along a process are those of the formula in the run.
use Rattle.std.proofs.Common.{◌≡◌, ◌↔◌, ℕ, zero, suc, ◌+◌, ◌<◌, ◌≤◌, ℤ, Bool, true, false, List, [], ◌∷◌, length, map, get_or, refl, ap, sym, subst, ◌∙◌, arith}
use Rattle.std.specs.Prelude.{pos, Option, Some, None}
use Rattle.std.specs.List.{range_with_len, AllByRecursion}
use Rattle.std.proofs.lemmas.List.{length-map, get_or-map}
use Rattle.std.proofs.lemmas.List.FromFn.{get_or-map-range_with_len}
use Rattle.run_model.specs.Cut.{Cut, count, lengths}
use Rattle.run_model.specs.Run as run
use Rattle.run_model.specs.Run.{Name, Run, Trace, Watches, process_at, clocks_of, run_of, states_of}
use Rattle.run_model.specs.Consistent.{IsConsistent}
use Rattle.run_model.specs.Meaning.{Sat}
use Rattle.event_log.specs.declared.log.Binding.{Binding}
use Rattle.event_log.specs.declared.log.Event.{Event}
use Rattle.event_log.specs.Numbers.{binding_names}
use Rattle.event_log.specs.States.{StatesView, AreWhole, AreNamedApart, trace_of, event_of}
use Rattle.event_log.proofs.Keeping.{process_is}
use Rattle.event_log.proofs.NameLaws.{place_again}
use Rattle.event_log.proofs.NameNumbers.{names_are, number_again, value_named}
use Rattle.pull_system.specs.Pulls.{ClosedUnder}
use Rattle.rctl_parts.specs.Exprs.{Expr}
use Rattle.rctl_parts.specs.MadeFor.{is_constant}
use Rattle.rctl_parts.specs.Spelled.{Names, numbered_name, formula_in, local_formula}
use Rattle.local_preds.specs.Rows.{is_true, value_at, watched_at, truth_at, truths_of, len_at}
use Rattle.local_preds.specs.LocalPulls.{constant_pulls_of}
use Rattle.local_preds.specs.LocalRuns.{names_of, AreAnswers, FitsProcess, local_pulls, constant_truth}
use Rattle.local_preds.proofs.RowSteps.{length-truths}
use Rattle.local_preds.proofs.Truths.{pulls_close, constant_closes}
use Rattle.local_preds.proofs.Expressions.{named_value, named_watch, expr_means, Agree, same_truth, same_constant}

-- ---- the run of the states

lengths_are : (t : Trace) (i : ℕ) → get_or (lengths (clocks_of t)) i 0 ≡ length (process_at t i).events
unfolding lengths
lengths_are [] i = refl
lengths_are (x ∷ t) zero = length-map x.events (λ (e : run.Event). e.clock)
lengths_are (x ∷ t) (suc i) = lengths_are t i

-- a consistent cut has no more events of a process than there are
cut_within : (states : StatesView) → AreWhole states → (p : ℕ) → p < length states.events → (c : Cut) → IsConsistent (clocks_of (trace_of states)) c → count c p ≤ len_at states p
cut_within states whole p there c consistent =
    let process = process_is states.header.procs states.header.vars states.events p (omega (arith, whole.events)) (omega (arith, whole.events, whole.header.vars)) there in
    omega (arith, consistent.within p, lengths_are (trace_of states) p, ap (λ (x : run.Process). length x.events) process, length-map (get_or states.events p []) event_of)

apart_at : (vars : List (List Binding)) (p : ℕ) → AllByRecursion AreNamedApart vars → p < length vars → AreNamedApart (get_or vars p [])
apart_at [] p all there = absurd (omega arith)
apart_at (v ∷ vars) zero all there = all.0
apart_at (v ∷ vars) (suc p) all there = apart_at vars p all.1 (omega arith)

process_number : (states : StatesView) (watches : Watches) → AreWhole states → (p : ℕ) → p < length states.events
    → (run_of (trace_of states) watches).process (numbered_name states.header.procs p) ≡ p
process_number states watches whole p there =
    ap (run.number_of (numbered_name states.header.procs p)) (names_are states whole.header.vars whole.events)
    ∙ number_again states.header.procs p whole.header.distinct (omega (arith, whole.events))

-- ---- values and truths by names and by numbers

values_agree : (states : StatesView) (watches : Watches) (watch_names : List Name) (watch_process : List (Option ℕ)) (watch_rows : List (List Bool)) (p : ℕ) → AreWhole states → p < length states.events
    → AreAnswers states watches watch_names watch_process watch_rows p → (c : Cut)
    → Agree (length (get_or states.header.vars p [])) watch_process p
    (named_value (run_of (trace_of states) watches) (binding_names (get_or states.header.vars p [])) (numbered_name states.header.procs p) c) (value_at states p (count c p))
    (named_watch (run_of (trace_of states) watches) watch_names (numbered_name states.header.procs p) c) (watched_at watch_rows (count c p))
values_agree states watches watch_names watch_process watch_rows p whole there answers c =
    let r = run_of (trace_of states) watches in
    let names = binding_names (get_or states.header.vars p []) in
    let number = process_number states watches whole p there in
    record {
      values = λ v lt.
          let variables : v < length names = omega (arith, length-map (get_or states.header.vars p []) (λ (b : Binding). b.name)) in
          ap (λ (i : ℕ). r.value i (numbered_name names v) (count c i)) number
          ∙ value_named states p (count c p) v (numbered_name names v) whole.header.vars whole.events there
          (place_again names v (apart_at states.header.vars p whole.header.variables (omega (arith, whole.events, whole.header.vars))) variables);
      truths = λ w on.
          ap (λ (i : ℕ). r.watched i (numbered_name watch_names w) (count c i)) number
          ∙ ap (λ (row : List Bool). get_or row (count c p) false) (sym (answers w on));
    }

pub truth_at_cut : (states : StatesView) (p : ℕ) (watch_rows : List (List Bool)) (e : Expr) (a : ℕ) → a ≤ len_at states p
    → get_or (truths_of states p watch_rows e) a false ≡ truth_at states p watch_rows e a
truth_at_cut states p watch_rows e a within = get_or-map-range_with_len (truth_at states p watch_rows e) 0 (len_at states p + 1) a a false (omega arith) (omega arith)

-- the truth of the formula at a cut is that in the process's state there
formula_at_cut : (states : StatesView) (watches : Watches) (watch_names : List Name) (watch_process : List (Option ℕ)) (watch_rows : List (List Bool)) (p : ℕ) (e : Expr) → AreWhole states → p < length states.events
    → FitsProcess states watch_process p e → AreAnswers states watches watch_names watch_process watch_rows p → (c : Cut)
    → Sat (run_of (trace_of states) watches) (local_formula (names_of states watch_names) (Some p) e) c ↔ (truth_at states p watch_rows e (count c p) ≡ true)
formula_at_cut states watches watch_names watch_process watch_rows p e whole there fits answers c =
    let r = run_of (trace_of states) watches in
    let process = numbered_name states.header.procs p in
    let names = binding_names (get_or states.header.vars p []) in
    let named : get_or (names_of states watch_names).variables p [] ≡ names =
    get_or-map binding_names states.header.vars p [] [] (omega (arith, whole.events, whole.header.vars)) in
    let means = expr_means r names watch_names process c e in
    let same = same_truth (length (get_or states.header.vars p [])) watch_process p (named_value r names process c) (value_at states p (count c p))
    (named_watch r watch_names process c) (watched_at watch_rows (count c p)) e fits
    (values_agree states watches watch_names watch_process watch_rows p whole there answers c) in
    let F : List Name → Type 0 = λ variables. Sat r (formula_in variables watch_names process e) c in (
      λ h. sym same ∙ means.0 (subst F named h),
      λ h. subst F (sym named) (means.1 (same ∙ h)),
    )

pub local_means : (states : StatesView) (watches : Watches) (watch_names : List Name) (watch_process : List (Option ℕ)) (watch_rows : List (List Bool)) (p : ℕ) (e : Expr)
    → AreWhole states → p < length states.events → FitsProcess states watch_process p e → AreAnswers states watches watch_names watch_process watch_rows p
    → (c : Cut) → IsConsistent (clocks_of (trace_of states)) c
    → ClosedUnder (local_pulls states p watch_rows e) c ↔ Sat (run_of (trace_of states) watches) (local_formula (names_of states watch_names) (Some p) e) c
local_means states watches watch_names watch_process watch_rows p e whole there fits answers c consistent =
    let within = cut_within states whole p there c consistent in
    let close = pulls_close p (truths_of states p watch_rows e) (local_pulls states p watch_rows e) refl c (omega (arith, length-truths states p watch_rows e)) in
    let read = truth_at_cut states p watch_rows e (count c p) within in
    let formula = formula_at_cut states watches watch_names watch_process watch_rows p e whole there fits answers c in (
      λ closed. formula.1 (sym read ∙ close.0 closed),
      λ sat. close.1 (read ∙ formula.0 sat),
    )

pub constant_means : (r : Run) (names : Names) (lens : List ℕ) (e : Expr) → is_constant e ≡ true → (c : Cut) → count c 0 ≤ get_or lens 0 0
    → ClosedUnder (constant_pulls_of lens (constant_truth e)) c ↔ Sat r (local_formula names None e) c
constant_means r names lens e constant c within =
    let close = constant_closes lens (constant_truth e) c within in
    let means = expr_means r [] [] [] c e in
    let same = same_constant (named_value r [] [] c) (λ v. pos 0) (named_watch r [] [] c) (λ w. false) e constant in (
      λ closed. means.1 (same ∙ close.0 closed),
      λ sat. close.1 (sym same ∙ means.0 sat),
    )
