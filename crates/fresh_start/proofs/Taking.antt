-- A fresh trace takes batches as one.
use Rattle.std.proofs.Common.{◌≡◌, ℕ, zero, suc, ◌+◌, ◌<◌, ◌≤◌, List, [], ◌∷◌, ◌++◌, length, map, sum, set, refl, sym, ap, ◌∙◌, subst, arith, length-append}
use Rattle.std.specs.Prelude.{None}
use Rattle.std.specs.List.{AllByRecursion}
use Rattle.std.proofs.lemmas.List.{length-replicate, length-set, length-map, map-set}
use Rattle.std.proofs.lemmas.List.Sums.{sum_by-set}
use Rattle.pota_base.specs.Limits.{most_events}
use Rattle.event_log.specs.declared.log.Event.{Event}
use Rattle.event_log.specs.declared.log.Header.{Header}
use Rattle.event_log.specs.States.{StatesView, IsKnown, with_event, with_batch, with_batches}
use Rattle.vector_clock.specs.Events.{Events, EventStands, AllStand, no_events, own_events}
use Rattle.vector_clock.specs.Faults.{batches_fault}
use Rattle.vector_clock.specs.Filled.{filled_event, fill_from, filled_batches}
use Rattle.vector_clock.proofs.Growth.{length-with_batch}
use Rattle.vector_clock.proofs.FilledBatches.{length-fill_from}
use Rattle.vector_clock.proofs.Looks.{own_len}
use Rattle.trace_growth.specs.Growing.{TraceView, opened_trace, filled_for, with_trace_batch}
use Rattle.clock_laws.specs.Joined.{as_one}
use Rattle.clock_laws.proofs.Filling.{same_process}
use Rattle.clock_laws.proofs.OneFilling.{all_of_one, no_fault_as_one, same_events}
use Rattle.fresh_start.specs.Taken.{TakesAll, after_all}

-- ---- how many events there are

one_added : (events : Events) (e : Event) → e.process < length events → sum (map length (with_event events e)) ≡ sum (map length events) + 1
one_added events e there =
    let own = own_events events e.process in
    let more = own ++ e ∷ [] in
    let lens : map length (with_event events e) ≡ set (map length events) e.process (length more) = map-set (length {A = Event}) events e.process more in
    omega (arith, ap sum lens, sum_by-set (λ (n : ℕ). n) (map length events) e.process (length more) 0 (omega (arith, there, length-map events (length {A = Event}))), own_len events e.process, length-append own (e ∷ []))

all_added : (events : Events) (batch : List Event) → AllByRecursion (λ (e : Event). e.process < length events) batch → sum (map length (with_batch events batch)) ≡ sum (map length events) + length batch
unfolding with_batch
all_added events [] there = omega arith
all_added events (e ∷ es) there =
    omega (
      arith,
      one_added events e there.0,
      all_added (with_event events e) es (subst (λ (n : ℕ). AllByRecursion (λ (x : Event). x.process < n) es) (sym (length-set events e.process (own_events events e.process ++ e ∷ []))) there.1),
    )

filled_there : (n : ℕ) (all before : Events) (es : List Event) → AllByRecursion (EventStands n) es → AllByRecursion (λ (e : Event). e.process < n) (fill_from all before es)
unfolding fill_from
filled_there n all before [] stands = tt
filled_there n all before (e ∷ es) stands = (omega (arith, stands.0.process, same_process all before e), filled_there n all (with_event before (filled_event all before e)) es stands.1)

-- ---- what each batch keeps to, and all of them

module _ (header : Header) where
  -- the trace is one of this header
  record IsOf (trace : TraceView) : Type 0 where
    header_is : trace.states.header ≡ header
    count : length trace.states.events ≡ length header.procs

  is_opened : IsOf (opened_trace header)
  is_opened = record { header_is = refl; count = length-replicate (length header.procs) [] }

  is_later : (trace : TraceView) (batch : List Event) → IsOf trace → IsOf (with_trace_batch trace batch)
  is_later trace batch of = record { header_is = of.header_is; count = length-with_batch trace.states.events (filled_for trace batch) ∙ of.count }

  all_stand : (trace : TraceView) (batches : List (List Event)) → IsOf trace → TakesAll trace batches → AllStand (length header.procs) batches
  all_stand trace [] of takes = tt
  all_stand trace (b ∷ batches) of takes = (
    subst (λ (n : ℕ). AllByRecursion (EventStands n) b) of.count takes.0.each,
    all_stand (with_trace_batch trace b) batches (is_later trace b of) takes.2,
  )

  all_known : (trace : TraceView) (batches : List (List Event)) → IsOf trace → TakesAll trace batches → AllByRecursion (λ (b : List Event). AllByRecursion (IsKnown header) b) batches
  all_known trace [] of takes = tt
  all_known trace (b ∷ batches) of takes = (
    subst (λ (h : Header). AllByRecursion (IsKnown h) b) of.header_is takes.0.follows.known,
    all_known (with_trace_batch trace b) batches (is_later trace b of) takes.2,
  )

  few : (trace : TraceView) (batches : List (List Event)) → IsOf trace → TakesAll trace batches → sum (map length trace.states.events) ≤ most_events → sum (map length trace.states.events) + length (as_one batches) ≤ most_events
  few trace [] of takes most = omega (arith, most)
  few trace (b ∷ batches) of takes most =
      let events = trace.states.events in
      let full = filled_for trace b in
      let next = with_trace_batch trace b in
      let added = all_added events full (filled_there (length events) (with_batch events b) events b takes.0.each) in
      let size = length-fill_from (with_batch events b) events b in
      omega (arith, added, size, few next batches (is_later trace b of) takes.2 (omega (arith, added, size, takes.0.follows.few)), length-append b (as_one batches))

no_fault : (trace : TraceView) (batches : List (List Event)) → TakesAll trace batches → batches_fault trace.states.events (filled_batches trace.states.events batches) ≡ None
unfolding batches_fault filled_batches
no_fault trace [] takes = refl
no_fault trace (b ∷ batches) takes = rw takes.1 (no_fault (with_trace_batch trace b) batches takes.2)

states_after : (trace : TraceView) (batches : List (List Event)) → (after_all trace batches).states ≡ record { header = trace.states.header; events = with_batches trace.states.events (filled_batches trace.states.events batches) }
unfolding filled_batches
states_after trace [] = refl
states_after trace (b ∷ batches) = states_after (with_trace_batch trace b) batches

none_counted : (n : ℕ) → sum (map (length {A = Event}) (no_events n)) ≡ 0
none_counted zero = refl
none_counted (suc n) = omega (arith, none_counted n)

pub takes_as_one : (header : Header) (batches : List (List Event)) → TakesAll (opened_trace header) batches → TakesAll (opened_trace header) (as_one batches ∷ [])
takes_as_one header batches takes =
    let trace = opened_trace header in
    let n = length header.procs in
    let stand = all_stand header trace batches (is_opened header) takes in
    let none : sum (map length trace.states.events) ≡ 0 = none_counted n in (
      record {
        follows = record {
          known = all_of_one (IsKnown header) batches (all_known header trace batches (is_opened header) takes);
          few = few header trace batches (is_opened header) takes (omega (arith, none));
        };
        each = subst (λ (k : ℕ). AllByRecursion (EventStands k) (as_one batches)) (sym (is_opened header).count) (all_of_one (EventStands n) batches stand);
      },
      no_fault_as_one n batches stand (no_fault trace batches takes),
      tt,
    )

pub same_states : (header : Header) (batches : List (List Event)) → TakesAll (opened_trace header) batches → (after_all (opened_trace header) (as_one batches ∷ [])).states ≡ (after_all (opened_trace header) batches).states
same_states header batches takes =
    let trace = opened_trace header in
    let stand = all_stand header trace batches (is_opened header) takes in
    ap (λ (e : Events). let s : StatesView = record { header = header; events = e } in s) (same_events (length header.procs) batches stand (no_fault trace batches takes)) ∙ sym (states_after trace batches)
