-- Batches that are admitted one after the other.
use Rattle.std.proofs.Common.{◌≡◌, ℕ, zero, suc, ◌+◌, ◌<◌, ◌≤◌, List, [], ◌∷◌, length, map, sum, drop, get_or, refl, sym, ap, ◌∙◌, subst, arith}
use Rattle.std.specs.Prelude.{◌==◌, true, Option, None, Some, Result, Ok, Err, OnErr, OnOk}
use Rattle.std.proofs.lemmas.Bool.{eqb-true}
use Rattle.std.specs.List.{AllByRecursion}
use Rattle.std.proofs.lemmas.List.{drop_more, drop_all, length-replicate}
use Rattle.event_log.specs.PassedOn.{choose}
use Rattle.event_log.specs.declared.log.Event.{Event}
use Rattle.event_log.specs.declared.log.Log.{Log}
use Rattle.event_log.specs.declared.item.LogFault.{LogFault}
use Rattle.event_log.specs.LogText.{event_count}
use Rattle.event_log.specs.States.{with_batch, with_batches}
use Rattle.event_log.proofs.Keeping.{sum_batch}
use Rattle.run_model.specs.Cut.{Clocks, lengths}
use Rattle.vector_clock.specs.declared.clocks.Clocks as code
use Rattle.vector_clock.specs.Events.{Events, EventFits, EventStands, BatchFits, BatchStands}
use Rattle.vector_clock.specs.Events.{AllStand, CanBeChecked, no_events, clocks_of}
use Rattle.vector_clock.specs.Faults.{batch_fault, batches_fault, log_fault, fault_from}
use Rattle.vector_clock.specs.Admitted.{HasAdmitted, IfFault}
use Rattle.pota_base.specs.declared.fault.Refused.{Refused}
use Rattle.pota_base.specs.declared.fault.Refused.TheVariants.{Fault, NoMemory}
use Rattle.pota_base.specs.Limits.{most_events}
use Rattle.vector_clock.specs.Filled.{filled_batch, filled_batches, filled_log}
use Rattle.vector_clock.proofs.Growth.{length-clocks_of, lengths_of, length-with_batch}
use Rattle.vector_clock.proofs.FilledBatches.{filled_fits, length-fill_from}

pub on_err : {T E P : Type 0} (r : Result T E) → P → OnErr r P
on_err (Ok x) p = tt
on_err (Err e) p = p

pub on_ok : {T E P Q : Type 0} (r : Result T E) → (P → Q) → OnOk r P → OnOk r Q
on_ok (Ok x) step p = step p
on_ok (Err e) step p = tt

pub if_fault : {T F : Type 0} {P Q : F → Type 0} (r : Result T (Refused F)) → ((f : F) → P f → Q f) → IfFault r P → IfFault r Q
if_fault (Ok x) step p = tt
if_fault (Err (Fault f)) step p = step f p
if_fault (Err NoMemory) step p = tt

pub taken_is : (events : Events) (o : Clocks) (taken : List ℕ) → o ≡ clocks_of events → taken ≡ lengths o → taken ≡ map length events
taken_is events o taken own is = is ∙ ap lengths own ∙ lengths_of events

pub nothing_admitted : (events : Events) (batch : List Event) (clocks : code.Clocks) → batch ≡ [] → HasAdmitted clocks events → (batch_fault events batch ≡ None) × HasAdmitted clocks (with_batch events batch)
unfolding fault_from with_batch
nothing_admitted events batch clocks none has =
    (ap (batch_fault events) none, subst (λ (b : List Event). HasAdmitted clocks (with_batch events b)) (sym none) has)

-- ---- the batches of a log

none_there : (n : ℕ) → sum (map (length {A = Event}) (no_events n)) ≡ 0
none_there zero = refl
none_there (suc n) = none_there n

stand_at : (procs : ℕ) (batches : List (List Event)) (i : ℕ) (b : List Event) → AllStand procs batches → i < length batches → b ≡ get_or batches i b → AllByRecursion (EventStands procs) b
stand_at procs [] i b stand lt at = absurd (omega arith)
stand_at procs (x ∷ batches) zero b stand lt at = subst (λ (y : List Event). AllByRecursion (EventStands procs) y) (sym at) stand.0
stand_at procs (x ∷ batches) (suc i) b stand lt at = stand_at procs batches i b stand.1 (omega arith) at

-- the batches from the one on
rest_is : (batches : List (List Event)) (i : ℕ) (b : List Event) → i < length batches → b ≡ get_or batches i b → drop i batches ≡ b ∷ drop (i + 1) batches
rest_is batches i b lt at = drop_more batches i b lt ∙ ap (λ (x : List Event). x ∷ drop (i + 1) batches) (sym at)

-- the clocks and the messages are those of events that were admitted, each with its clock, and what
-- is left of the log decides its first fault and its order
pub record CheckedSoFar (log : Log) (i : ℕ) (clocks : code.Clocks) : Type 0 where
  pub events : Events
  pub admitted : HasAdmitted clocks events
  pub count : length events ≡ length log.header.procs
  pub few : sum (map length events) + event_count (drop i log.batches) ≤ most_events
  pub fault : log_fault (filled_log log) ≡ batches_fault events (filled_batches events (drop i log.batches))
  pub whole : with_batches (no_events (length log.header.procs)) (filled_log log).batches ≡ with_batches events (filled_batches events (drop i log.batches))

pub checked_none : (log : Log) (clocks : code.Clocks) → CanBeChecked log → HasAdmitted clocks (no_events (length log.header.procs)) → CheckedSoFar log 0 clocks
checked_none log clocks can has = record {
  events = no_events (length log.header.procs);
  admitted = has;
  count = length-replicate (length log.header.procs) [];
  few = omega (arith, none_there (length log.header.procs), can.events);
  fault = refl;
  whole = refl;
}

pub next_stands : (log : Log) (i : ℕ) (clocks : code.Clocks) (b : List Event) → CanBeChecked log → CheckedSoFar log i clocks → i < length log.batches → b ≡ get_or log.batches i b
    → BatchStands (length clocks.order) (sum (lengths clocks.order)) b
next_stands log i clocks b can so_far lt at =
    let procs : length clocks.order ≡ length log.header.procs = ap length so_far.admitted.order ∙ length-clocks_of so_far.events ∙ so_far.count in
    let total : sum (lengths clocks.order) ≡ sum (map length so_far.events) = ap (λ (o : Clocks). sum (lengths o)) so_far.admitted.order ∙ ap sum (lengths_of so_far.events) in
    record {
      each = subst (λ (k : ℕ). AllByRecursion (EventStands k) b) (sym procs) (stand_at (length log.header.procs) log.batches i b can.each lt at);
      few = omega (arith, total, ap event_count (rest_is log.batches i b lt at), so_far.few);
    }

-- the batch with its clocks may be admitted
pub filled_may_be_admitted : (clocks : code.Clocks) (events : Events) (batch filled : List Event) → HasAdmitted clocks events → BatchStands (length clocks.order) (sum (lengths clocks.order)) batch
    → filled ≡ filled_batch events batch → BatchFits (length clocks.order) (sum (lengths clocks.order)) filled
filled_may_be_admitted clocks events batch filled has stands is =
    let procs : length clocks.order ≡ length events = ap length has.order ∙ length-clocks_of events in
    record {
      each = subst (λ (b : List Event). AllByRecursion (EventFits (length clocks.order)) b) (sym is) (subst (λ (n : ℕ). AllByRecursion (EventFits n) (filled_batch events batch)) (sym procs)
          (filled_fits events batch (subst (λ (n : ℕ). AllByRecursion (EventStands n) batch) procs stands.each)));
      few = omega (arith, ap length is, length-fill_from (with_batch events batch) events batch, stands.few);
    }

faults_from : (events : Events) (batches : List (List Event)) (i : ℕ) (b : List Event) → i < length batches → b ≡ get_or batches i b
    → batches_fault events (filled_batches events (drop i batches))
    ≡ choose (batch_fault events (filled_batch events b)) (λ f. Some f)
    (batches_fault (with_batch events (filled_batch events b)) (filled_batches (with_batch events (filled_batch events b)) (drop (i + 1) batches)))
unfolding batches_fault filled_batches
faults_from events batches i b lt at = ap (λ (bs : List (List Event)). batches_fault events (filled_batches events bs)) (rest_is batches i b lt at)

events_from : (events : Events) (batches : List (List Event)) (i : ℕ) (b : List Event) → i < length batches → b ≡ get_or batches i b
    → with_batches events (filled_batches events (drop i batches))
    ≡ with_batches (with_batch events (filled_batch events b)) (filled_batches (with_batch events (filled_batch events b)) (drop (i + 1) batches))
unfolding filled_batches
events_from events batches i b lt at = ap (λ (bs : List (List Event)). with_batches events (filled_batches events bs)) (rest_is batches i b lt at)

pub checked_next : (log : Log) (i : ℕ) (clocks next : code.Clocks) (b : List Event) → CheckedSoFar log i clocks → i < length log.batches → b ≡ get_or log.batches i b
    → ((events : Events) → HasAdmitted clocks events → (batch_fault events (filled_batch events b) ≡ None) × HasAdmitted next (with_batch events (filled_batch events b))) → CheckedSoFar log (i + 1) next
checked_next log i clocks next b so_far lt at admits =
    let events = so_far.events in
    let filled = filled_batch events b in
    let more = with_batch events filled in
    let here = admits events so_far.admitted in
    record {
      events = more;
      admitted = here.1;
      count = length-with_batch events filled ∙ so_far.count;
      few = omega (arith, sum_batch events filled, length-fill_from (with_batch events b) events b, ap event_count (rest_is log.batches i b lt at), so_far.few);
      fault = so_far.fault ∙ faults_from events log.batches i b lt at
          ∙ ap (λ (f : Option LogFault). choose f (λ (x : LogFault). Some x) (batches_fault more (filled_batches more (drop (i + 1) log.batches)))) here.0;
      whole = so_far.whole ∙ events_from events log.batches i b lt at;
    }

pub checked_fault : (log : Log) (i : ℕ) (clocks : code.Clocks) (b : List Event) (f : LogFault) → CheckedSoFar log i clocks → i < length log.batches → b ≡ get_or log.batches i b
    → ((events : Events) → HasAdmitted clocks events → batch_fault events (filled_batch events b) ≡ Some f) → log_fault (filled_log log) ≡ Some f
checked_fault log i clocks b f so_far lt at refuses =
    let events = so_far.events in
    let more = with_batch events (filled_batch events b) in
    so_far.fault ∙ faults_from events log.batches i b lt at
    ∙ ap (λ (o : Option LogFault). choose o (λ (x : LogFault). Some x) (batches_fault more (filled_batches more (drop (i + 1) log.batches)))) (refuses events so_far.admitted)

pub checked_all : (log : Log) (i : ℕ) (clocks : code.Clocks) (o : Clocks) → CheckedSoFar log i clocks → length log.batches ≤ i → o ≡ clocks.order
    → (log_fault (filled_log log) ≡ None) × (o ≡ clocks_of (with_batches (no_events (length log.header.procs)) (filled_log log).batches))
unfolding batches_fault filled_batches
checked_all log i clocks o so_far all is =
    let none = drop_all i log.batches all in (
      so_far.fault ∙ ap (λ (bs : List (List Event)). batches_fault so_far.events (filled_batches so_far.events bs)) none,
      is ∙ so_far.admitted.order
          ∙ sym (ap clocks_of (so_far.whole ∙ ap (λ (bs : List (List Event)). with_batches so_far.events (filled_batches so_far.events bs)) none)),
    )

-- ---- small steps

pub none_in : (batch : List Event) → (length batch == 0) ≡ true → batch ≡ []
none_in [] h = refl
none_in (e ∷ batch) h = absurd (omega (arith, eqb-true (length (e ∷ batch)) 0 h))

pub other_fault : (S T : Type 0) (P Q : LogFault → Type 0) (refused : Refused LogFault) → ((f : LogFault) → P f → Q f) → IfFault {T = S} (Err refused) P → IfFault {T = T} (Err refused) Q
other_fault S T P Q (Fault f) step p = step f p
other_fault S T P Q NoMemory step p = tt

-- the first batch of two processes
pub first_fits : (procs : ℕ) (clocks : code.Clocks) (batch bytes : List Event) → HasAdmitted clocks (no_events procs) → AllByRecursion (EventFits procs) batch → length batch ≤ most_events → bytes ≡ batch
    → BatchFits (length clocks.order) (sum (lengths clocks.order)) bytes
first_fits procs clocks batch bytes has fits few same =
    let count : length clocks.order ≡ procs = ap length has.order ∙ length-clocks_of (no_events procs) ∙ length-replicate procs [] in
    let total : sum (lengths clocks.order) ≡ sum (map length (no_events procs)) = ap (λ (o : Clocks). sum (lengths o)) has.order ∙ ap sum (lengths_of (no_events procs)) in
    record {
      each = subst (λ (b : List Event). AllByRecursion (EventFits (length clocks.order)) b) (sym same) (subst (λ (n : ℕ). AllByRecursion (EventFits n) batch) (sym count) fits);
      few = omega (arith, ap length same, none_there procs);
    }
