-- Logs that are filled.
use Rattle.std.proofs.Common.{◌≡◌, ℕ, ◌<◌, List, [], ◌∷◌, length, refl, sym, ap, ◌∙◌, subst}
use Rattle.std.specs.Prelude.{None}
use Rattle.std.specs.List.{AllByRecursion}
use Rattle.std.proofs.lemmas.List.{length-replicate}
use Rattle.event_log.specs.declared.log.Event.{Event}
use Rattle.event_log.specs.declared.log.Log.{Log}
use Rattle.event_log.specs.States.{states_of, with_batch, trace_of_log}
use Rattle.vector_clock.specs.Events.{Events, EventFits, AllFit, no_events, EventStands, AllStand}
use Rattle.vector_clock.specs.Faults.{log_fault}
use Rattle.vector_clock.specs.Faultless.{no_batch, IsLoggedRun}
use Rattle.vector_clock.proofs.Growth.{length-with_batch}
use Rattle.vector_clock.proofs.Receipts.{faultless_batches, faultless_run}
use Rattle.vector_clock.specs.Filled.{filled_batch, filled_batches, filled_log}
use Rattle.vector_clock.proofs.FilledBatches.{stays_from, filled_fits}

pub written_log : (procs : ℕ) (before : Events) (batches : List (List Event)) → 0 < procs → AllFit procs batches → filled_batches before batches ≡ batches
unfolding filled_batches
written_log procs before [] some fits = refl
written_log procs before (b ∷ bs) some fits =
    ap (λ (x : List Event). x ∷ filled_batches (with_batch before (filled_batch before b)) bs) (stays_from procs (with_batch before b) before b some fits.0)
    ∙ ap (λ (xs : List (List Event)). b ∷ xs) (written_log procs (with_batch before (filled_batch before b)) bs some fits.1)

pub all_fit : (procs : ℕ) (before : Events) (batches : List (List Event)) → length before ≡ procs → AllStand procs batches → AllFit procs (filled_batches before batches)
unfolding filled_batches
all_fit procs before [] size stands = tt
all_fit procs before (b ∷ bs) size stands = (
  subst (λ (n : ℕ). AllByRecursion (EventFits n) (filled_batch before b)) size (filled_fits before b (subst (λ (n : ℕ). AllByRecursion (EventStands n) b) (sym size) stands.0)),
  all_fit procs (with_batch before (filled_batch before b)) bs (length-with_batch before (filled_batch before b) ∙ size) stands.1,
)

pub log_is_a_run : (log : Log) → length log.header.vars ≡ length log.header.procs → AllStand (length log.header.procs) log.batches → log_fault (filled_log log) ≡ None → IsLoggedRun (trace_of_log (filled_log log))
log_is_a_run log vars stands none =
    let n = length log.header.procs in
    faultless_run (states_of (filled_log log)) vars
    (faultless_batches n (no_events n) (filled_log log).batches no_batch (all_fit n (no_events n) log.batches (length-replicate n []) stands) none)
