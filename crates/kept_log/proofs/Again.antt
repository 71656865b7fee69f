-- A folded log may be folded again.
use Rattle.std.proofs.Common.{◌≡◌, ℕ, ◌+◌, ◌≤◌, Bool, List, [], ◌∷◌, length, filter, refl, sym, ap, ◌∙◌, subst, arith, inl, inr, length-append}
use Rattle.std.specs.List.{AllByRecursion}
use Rattle.std.proofs.lemmas.Bool.{cases_Bool, cond-true, cond-false}
use Rattle.std.proofs.lemmas.List.{length-map}
use Rattle.run_model.specs.Run as run
use Rattle.kept_runs.specs.Kept.{Names, is_on_some}
use Rattle.event_log.specs.declared.log.Event.{Event}
use Rattle.event_log.specs.declared.log.Log.{Log}
use Rattle.event_log.specs.LogText.{event_count}
use Rattle.event_log.specs.States.{event_of, trace_of_log}
use Rattle.log_writing.specs.Spelling.{CanBeSpelled, HasText}
use Rattle.clock_laws.specs.Joined.{as_one}
use Rattle.kept_log.specs.Kept.{is_kept_here, kept_here, kept_events, kept_log}
use Rattle.kept_log.specs.Keeping.{CanBeKept}
use Rattle.kept_log.proofs.Faults.{no_fault_arises}
use Rattle.kept_log.proofs.Fits.{peer_stays, all_joined, log_fits}
use Rattle.kept_log.proofs.Folded.{kept_one, dropped_one, length-kept_vars}
use Rattle.kept_log.proofs.Spelled.{assigns_fit}

-- ---- fewer events

few_kept : (p : Event → Bool) (xs : List Event) → length (filter p xs) ≤ length xs
few_kept p [] = omega arith
few_kept p (x ∷ xs) = elim (cases_Bool (p x)) [
  | inl on ↦
      let e : length (filter p (x ∷ xs)) ≡ length (x ∷ filter p xs) = ap length (cond-true (p x) (x ∷ filter p xs) (filter p xs) on) in
      omega (arith, e, few_kept p xs)
  | inr off ↦
      let e : length (filter p (x ∷ xs)) ≡ length (filter p xs) = ap length (cond-false (p x) (x ∷ filter p xs) (filter p xs) off) in
      omega (arith, e, few_kept p xs)
]

many_as_one : (batches : List (List Event)) → length (as_one batches) ≡ event_count batches
many_as_one [] = refl
many_as_one (b ∷ batches) = length-append b (as_one batches) ∙ ap (λ (n : ℕ). length b + n) (many_as_one batches)

-- ---- lines that can be spelled

module _ (log : Log) (names : Names) where
  abbrev trace : run.Trace
  trace = trace_of_log log

  one_spelled : (e : Event) → CanBeSpelled log.header e → CanBeSpelled (kept_log log names).header (kept_here trace names e)
  one_spelled e can = record {
    process = can.process;
    peer = peer_stays (length log.header.procs) (is_on_some trace names e.process (event_of e)) e.kind can.peer;
    assigns = assigns_fit log names e can.assigns;
  }

  all_spelled : (es : List Event) → AllByRecursion (CanBeSpelled log.header) es → AllByRecursion (CanBeSpelled (kept_log log names).header) (kept_events trace names es)
  all_spelled [] all = tt
  all_spelled (e ∷ es) all = elim (cases_Bool (is_kept_here trace names e)) [
    | inl on ↦ subst (AllByRecursion (CanBeSpelled (kept_log log names).header)) (sym (kept_one trace names e es on)) (one_spelled e all.0, all_spelled es all.1)
    | inr off ↦ subst (AllByRecursion (CanBeSpelled (kept_log log names).header)) (sym (dropped_one trace names e es off)) (all_spelled es all.1)
  ]

  text_kept : HasText log → HasText (kept_log log names)
  text_kept text = record {
    version = text.version;
    vars = length-kept_vars trace names 0 log.header.vars ∙ text.vars;
    events = (all_spelled (as_one log.batches) (all_joined (CanBeSpelled log.header) log.batches text.events), tt);
  }

  pub again : CanBeKept log → CanBeKept (kept_log log names)
  again can = record {
    text = text_kept can.text;
    clocks = log_fits log names can.clocks;
    faultless = no_fault_arises log names can.text.vars can.clocks can.faultless;
    events = omega (arith, mapped, few_kept (is_kept_here trace names) (as_one log.batches), many_as_one log.batches, can.events);
  }
    where
      mapped : length (kept_events trace names (as_one log.batches)) ≡ length (filter (is_kept_here trace names) (as_one log.batches))
      mapped = length-map (filter (is_kept_here trace names) (as_one log.batches)) (kept_here trace names)
