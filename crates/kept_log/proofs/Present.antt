-- The clocks of a log without a fault count only events that are there.
use Rattle.std.proofs.Common.{◌≡◌, ℕ, List, [], ◌∷◌, length, sym, ap, ◌∙◌, subst, arith}
use Rattle.std.specs.Prelude.{None}
use Rattle.std.specs.List.{AllByRecursion}
use Rattle.std.proofs.lemmas.List.{length-map}
use Rattle.run_model.specs.Cut.{count, lengths}
use Rattle.run_model.specs.Run as run
use Rattle.causal_order.proofs.Growing.{count-lengths}
use Rattle.event_log.specs.declared.item.LogCode.{LogCode}
use Rattle.event_log.specs.declared.log.Event.{Event}
use Rattle.event_log.specs.declared.log.Log.{Log}
use Rattle.event_log.specs.States.{event_of, with_event, trace_of_log}
use Rattle.vector_clock.specs.Events.{Events, no_events, own_events, clocks_of, place}
use Rattle.vector_clock.specs.Faults.{clock_fault, message_fault, event_fault, at_line, fault_from, log_fault}
use Rattle.vector_clock.proofs.Faultless.{no_fault_right, dangles_not, chosen_none}
use Rattle.vector_clock.proofs.Growth.{own_count}
use Rattle.clock_laws.specs.Joined.{as_one}
use Rattle.clock_laws.proofs.Joined.{joined_none, joined_events}
use Rattle.kept_log.proofs.Folded.{log_events}
use Rattle.kept_log.proofs.Messages.{process_events}
use Rattle.kept_log.proofs.Rows.{many_rows}
use Rattle.kept_log.proofs.Counted.{IsCounted}

counted_from : (trace : run.Trace) (all : Events) → ((j : ℕ) → count (lengths (clocks_of all)) j ≡ length (run.process_at trace j).events)
    → (before : Events) (es : List Event) → fault_from before all es ≡ None → AllByRecursion (IsCounted trace) es
unfolding fault_from
counted_from trace all lens before [] none = tt
counted_from trace all lens before (e ∷ es) none =
    let parts = chosen_none (event_fault before all e) (at_line e) (fault_from (with_event before e) all es) none in
    let clock = (chosen_none (clock_fault (clocks_of all) (place before e) e) (λ (f : LogCode). f) (message_fault before all e) parts.0).0 in
    let within = dangles_not (clocks_of all) e (no_fault_right (clocks_of all) (place before e) e clock).dangling in
    (λ j. omega (arith, within j, lens j), counted_from trace all lens (with_event before e) es parts.1)

pub all_counted : (log : Log) → length log.header.vars ≡ length log.header.procs → log_fault log ≡ None → AllByRecursion (IsCounted (trace_of_log log)) (as_one log.batches)
all_counted log vars none =
    let procs = length log.header.procs in
    let whole = as_one log.batches in
    let all = log_events log in
    let lens : (j : ℕ) → count (lengths (clocks_of all)) j ≡ length (run.process_at (trace_of_log log) j).events =
    λ j. count-lengths (clocks_of all) j ∙ own_count all j ∙ sym (ap length (process_events log.header.procs log.header.vars all vars (many_rows log) j) ∙ length-map (own_events all j) event_of) in
    counted_from (trace_of_log log) all lens (no_events procs) whole
    (subst (λ (x : Events). fault_from (no_events procs) x whole ≡ None) (joined_events (no_events procs) log.batches) (joined_none (no_events procs) log.batches none))
