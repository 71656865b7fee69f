-- The pulls of an atom have the lengths of the processes.
use Rattle.std.proofs.Common.{◌≡◌, ℕ, ◌+◌, ◌<◌, false, List, length, get_or, pos, Some, None, refl, sym, ◌∙◌, ap, subst, arith}
use Rattle.std.specs.Prelude.{All}
use Rattle.std.proofs.lemmas.List.{length-map}
use Rattle.event_log.specs.declared.log.Event.{Event}
use Rattle.trace_growth.specs.Growing.{IsTrace}
use Rattle.pull_system.specs.System.{IsPull}
use Rattle.rctl_parts.specs.Pieces.{Atom, local, at_most, at_least, never, diff_at_most, diff_at_least}
use Rattle.rctl_parts.specs.MadeFor.{AtomFits}
use Rattle.local_preds.specs.LocalRuns.{constant_truth}
use Rattle.local_preds.specs.Rows.{truths_of}
use Rattle.local_preds.proofs.RowSteps.{length-truths}
use Rattle.local_preds.proofs.Truths.{pulls_fit, constant_fits}
use Rattle.channel_preds.specs.Truth.{lens_of}
use Rattle.channel_preds.specs.Channels.{FitsShape, channel_of, sends_to, receipts_from, events_at}
use Rattle.channel_preds.specs.Channels.{at_most_pull, at_least_pull}
use Rattle.channel_preds.proofs.Counting.{channel_fits, counts_are, length-events_at}
use Rattle.channel_preds.proofs.Tables.{only, positions_fit}
use Rattle.counter_preds.proofs.Tables.{pull_fits}
use Rattle.part_pulls.specs.declared.observed.Observed.{Observed}
use Rattle.part_pulls.specs.Observing.{lens_seen, scope_seen}
use Rattle.part_pulls.specs.Systems.{pulls_of_atom}
use Rattle.part_pulls.specs.Counters.{AllRise, counter, counters_of_atom}
use Rattle.part_pulls.proofs.Rising.{left_rises, right_rises}
use Rattle.part_pulls.proofs.Atoms.{lens_same, there, is_variable}

-- there is a process
some_process : (seen : Observed) → IsTrace seen.trace.states → 0 < length (lens_of seen.trace.states)
some_process seen trace = omega (arith, trace.whole.header.some, trace.whole.events, length-map seen.trace.states.events (λ (es : List Event). length es))

process_fits : (seen : Observed) (p : ℕ) → p < length seen.trace.states.events → p < length (lens_of seen.trace.states)
process_fits seen p h = omega (arith, h, length-map seen.trace.states.events (λ (es : List Event). length es))

atom_pulls_fit : (seen : Observed) → IsTrace seen.trace.states → (a : Atom) → AtomFits (scope_seen seen) a → AllRise seen (counters_of_atom a) → All (IsPull (lens_of seen.trace.states)) (pulls_of_atom seen a)
atom_pulls_fit seen trace (local None e) fits rise = constant_fits (lens_of seen.trace.states) (constant_truth e) (some_process seen trace)
atom_pulls_fit seen trace (local (Some p) e) fits rise =
    let states = seen.trace.states in
    let process : p < length states.events = there seen trace p fits.1 in
    let size : length (truths_of states p seen.watch_rows e) ≡ get_or (lens_of states) p 0 + 1 =
    length-truths states p seen.watch_rows e ∙ ap (λ (n : ℕ). n + 1) (length-events_at states (lens_of states) p (get_or (lens_of states) p 0) process refl refl) in
    pulls_fit (lens_of states) p (truths_of states p seen.watch_rows e) (pulls_of_atom seen (local (Some p) e)) refl (process_fits seen p process) size
atom_pulls_fit seen trace (at_most p q k) fits rise =
    let states = seen.trace.states in
    let channel = channel_of states p q in
    let shape : FitsShape (lens_of states) channel = channel_fits states p q (there seen trace p fits.0) (there seen trace q fits.1) channel refl in
    only (IsPull (lens_of states)) (at_most_pull channel k)
    (positions_fit (lens_of states) p q channel.sent 0 channel.received k (counts_are (sends_to p q) (events_at states p)) shape.sender shape.receiver shape.sent shape.received)
atom_pulls_fit seen trace (at_least p q k) fits rise =
    let states = seen.trace.states in
    let channel = channel_of states p q in
    let shape : FitsShape (lens_of states) channel = channel_fits states p q (there seen trace p fits.0) (there seen trace q fits.1) channel refl in
    only (IsPull (lens_of states)) (at_least_pull channel k)
    (positions_fit (lens_of states) q p channel.received k channel.sent 0 (counts_are (receipts_from p q) (events_at states q)) shape.receiver shape.sender shape.received shape.sent)
atom_pulls_fit seen trace never fits rise = constant_fits (lens_of seen.trace.states) false (some_process seen trace)
atom_pulls_fit seen trace (diff_at_most p x q y k) fits rise =
    pull_fits seen.trace.states (counter p x) (counter q y) (pos 0) k (is_variable seen trace p x fits.0) (is_variable seen trace q y fits.1) (left_rises seen (counter p x) (counter q y) rise)
    (pulls_of_atom seen (diff_at_most p x q y k)) refl
atom_pulls_fit seen trace (diff_at_least p x q y k) fits rise =
    pull_fits seen.trace.states (counter q y) (counter p x) k (pos 0) (is_variable seen trace q y fits.1) (is_variable seen trace p x fits.0) (right_rises seen (counter p x) (counter q y) rise)
    (pulls_of_atom seen (diff_at_least p x q y k)) refl

pub atom_fits : (seen : Observed) → IsTrace seen.trace.states → (a : Atom) → AtomFits (scope_seen seen) a → AllRise seen (counters_of_atom a) → All (IsPull (lens_seen seen)) (pulls_of_atom seen a)
atom_fits seen trace a fits rise = subst (λ (lens : List ℕ). All (IsPull lens) (pulls_of_atom seen a)) (sym (lens_same seen trace)) (atom_pulls_fit seen trace a fits rise)
