-- A whole log: all of it keeps the invariant, so no event has a fault.
use Rattle.std.proofs.Common.{◌≡◌, ℕ, zero, suc, ◌+◌, ◌<◌, ◌≤◌, Bool, [], ◌∷◌, length, replicate, refl, sym, ap, ap₂, ◌∙◌, subst, arith}
use Rattle.std.specs.Prelude.{Option, None, Some}
use Rattle.std.proofs.lemmas.List.{length-replicate, get_or-replicate}
use Rattle.log_lines.specs.Reading.{choose}
use Rattle.run_model.specs.Cut.{count, initial}
use Rattle.run_model.specs.Consistent.{IsOrder, IsConsistent}
use Rattle.run_model.proofs.Orders.{initial_consistent}
use Rattle.event_log.specs.declared.item.LogCode.{LogCode}
use Rattle.event_log.specs.declared.item.LogFault.{LogFault}
use Rattle.event_log.specs.declared.log.Event.{Event}
use Rattle.event_log.specs.States.{with_event, with_batch}
use Rattle.causal_order.proofs.Orders.{no_events_order}
use Rattle.vector_clock.specs.Events.{Events, no_events, own_events, clocks_of}
use Rattle.vector_clock.specs.Messages.{first_place}
use Rattle.vector_clock.specs.Faults.{event_fault, at_line, fault_from, batches_fault, log_fault}
use Rattle.vector_clock.proofs.Growth.{clocks_none, length-with_batch, length-clocks_of}
use Rattle.trace_gen.specs.declared.process.Process.{Process}
use Rattle.trace_gen.specs.Words.{word, next_state, first_state}
use Rattle.trace_gen.specs.Making.{Processes, made}
use Rattle.trace_gen.specs.Generated.{events_from, at_rest, names_from, generated, generated_events}
use Rattle.trace_gen.proofs.Places.{HasMore, same_more, one_more, more_still}
use Rattle.trace_gen.proofs.Steps.{GoesOn, Going}
use Rattle.trace_gen.proofs.Choices.{made_well}
use Rattle.trace_gen.proofs.Clean.{clean_clock}

-- ---- the start

nothing_own : (procs i : ℕ) → own_events (no_events procs) i ≡ []
nothing_own zero i = refl
nothing_own (suc n) zero = refl
nothing_own (suc n) (suc i) = nothing_own n i

nothing_first : (test : Event → Bool) (procs i : ℕ) → first_place test (own_events (no_events procs) i) ≡ None
unfolding first_place
nothing_first test procs i = ap (first_place test) (nothing_own procs i)

start_order : (procs : ℕ) → IsOrder (clocks_of (no_events procs))
start_order procs = subst IsOrder (sym (clocks_none procs)) (no_events_order procs)

abbrev pub resting : ℕ → Process
resting procs = record { clock = replicate procs 0; seen = 0; waiting = [] }

initial_is : (procs : ℕ) → initial (clocks_of (no_events procs)) ≡ replicate procs 0
unfolding initial
initial_is procs = ap (λ n. replicate n 0) (length-clocks_of (no_events procs) ∙ length-replicate procs [])

zeros : (procs i : ℕ) → count (replicate procs 0) i ≡ 0
zeros zero i = refl
zeros (suc n) zero = refl
zeros (suc n) (suc i) = zeros n i

start_goes : (procs i : ℕ) → GoesOn (no_events procs) 0 i (resting procs)
start_goes procs i = record {
  past = subst (IsConsistent (clocks_of (no_events procs))) (initial_is procs) (initial_consistent (clocks_of (no_events procs)));
  own = zeros procs i ∙ sym (ap length (nothing_own procs i));
  seen = omega arith;
  low = 0;
  unread = λ m to low. nothing_first _ procs m.receiver;
  queued = omega arith;
}

pub start_going : (procs : ℕ) → Going procs (no_events procs) 0 (at_rest procs)
start_going procs = record {
  tables = length-replicate procs [];
  all = length-replicate procs (resting procs);
  order = start_order procs;
  few = λ i. omega (arith, ap length (nothing_own procs i));
  unsent = λ m low. nothing_first _ procs m.sender;
  each = λ i lt. subst (GoesOn (no_events procs) 0 i) (sym (get_or-replicate procs i (resting procs) _ lt)) (start_goes procs i);
}

-- ---- all events

module _ (procs : ℕ) (some : 1 ≤ procs) where
  -- the order of all events, and that the events so far are in front
  pub all_ends : (n k s : ℕ) (before : Events) (ps : Processes) → Going procs before k ps
      → IsOrder (clocks_of (with_batch before (events_from procs k n s ps))) × HasMore before (with_batch before (events_from procs k n s ps))
  unfolding events_from with_batch
  all_ends zero k s before ps going = (going.order, same_more before)
  all_ends (suc n) k s before ps going =
      let x = made procs k (word s) ps in
      let well = made_well procs before k (word s) ps some going in
      let rest = all_ends n (k + 1) (next_state s) (with_event before x.event) x.processes well.goes in
      (rest.0, more_still before (with_event before x.event) _ (one_more before x.event (omega (arith, well.there, going.tables))) rest.1)

  pub all_clean : (n k s : ℕ) (before : Events) (ps : Processes) (all : Events) → Going procs before k ps → all ≡ with_batch before (events_from procs k n s ps)
      → fault_from before all (events_from procs k n s ps) ≡ None
  unfolding events_from with_batch fault_from
  all_clean zero k s before ps all going whole = refl
  all_clean (suc n) k s before ps all going whole =
      let x = made procs k (word s) ps in
      let e = x.event in
      let after = with_event before e in
      let well = made_well procs before k (word s) ps some going in
      let there : e.process < length before = omega (arith, well.there, going.tables) in
      let ends = all_ends n (k + 1) (next_state s) after x.processes well.goes in
      let order : IsOrder (clocks_of all) = subst (λ (y : Events). IsOrder (clocks_of y)) (sym whole) ends.0 in
      let more : HasMore after all = subst (HasMore after) (sym whole) ends.1 in
      let same : length all ≡ length after = ap length whole ∙ length-with_batch after (events_from procs (k + 1) n (next_state s) x.processes) in
      let clock = clean_clock before all e there same more order in
      let message = well.message all (more_still before after all (one_more before e there) more) in
      let one : event_fault before all e ≡ None = ap₂ (λ (f g : Option LogCode). choose f (λ c. Some c) g) clock message in
      ap₂ (λ (f : Option LogCode) (g : Option LogFault). choose f (λ c. Some (at_line e c)) g) one (all_clean n (k + 1) (next_state s) after x.processes all well.goes whole)

pub length-names : (i n : ℕ) → length (names_from i n) ≡ n
length-names i zero = refl
length-names i (suc n) = omega (arith, length-names (i + 1) n)

abbrev fault_among : ℕ → ℕ → ℕ → ℕ → Option LogFault
fault_among n seed procs events = batches_fault (no_events n) (generated_events seed procs events ∷ [])

pub no_log_fault : (seed procs events : ℕ) → 1 ≤ procs → log_fault (generated seed procs events) ≡ None
unfolding batches_fault
no_log_fault seed procs events some = ap (λ n. fault_among n seed procs events) (length-names 0 procs) ∙ ap (λ (f : Option LogFault). choose f (λ x. Some x) None)
    (all_clean procs some events 0 (first_state seed) (no_events procs) (at_rest procs) _ (start_going procs) refl)
