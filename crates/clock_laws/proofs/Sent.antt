-- Of batches without a fault each receipt has its send by the end of its batch, so the clocks go by the events alone.
use Rattle.std.proofs.Common.{◌≡◌, ℕ, ◌+◌, ◌-◌, ◌<◌, true, false, not, List, [], ◌∷◌, length, refl, sym, ap, ◌∙◌, subst, arith, inl, inr, length-append}
use Rattle.std.specs.Prelude.{Option, None, Some, is_some}
use Rattle.std.specs.List.{AllByRecursion}
use Rattle.std.proofs.lemmas.List.{length-replicate}
use Rattle.std.proofs.lemmas.Bool.{cases_eq}
use Rattle.log_lines.specs.Reading.{choose}
use Rattle.event_log.specs.declared.item.LogCode.{LogCode}
use Rattle.event_log.specs.declared.item.LogCode.TheVariants as code
use Rattle.event_log.specs.declared.item.LogFault.{LogFault}
use Rattle.event_log.specs.declared.log.Event.{Event}
use Rattle.event_log.specs.States.{with_event, with_batch, with_batches}
use Rattle.vector_clock.specs.declared.message.Message.{Message}
use Rattle.vector_clock.specs.Events.{Events, EventStands, AllStand, no_events, own_events}
use Rattle.vector_clock.specs.Events.{clocks_of, place}
use Rattle.vector_clock.specs.Messages.{message_received, first_send}
use Rattle.vector_clock.specs.Faults.{clock_fault, is_twice, is_unsent, message_fault, event_fault, at_line, fault_from, batch_fault, batches_fault}
use Rattle.vector_clock.specs.Fill.{Place, IsThere, event_at, no_event, HasClockOf, upto_from, all_events}
use Rattle.vector_clock.specs.Filled.{filled_batch, filled_batches}
use Rattle.vector_clock.proofs.Faultless.{none_of, chosen_none}
use Rattle.vector_clock.proofs.Growth.{length-with_batch}
use Rattle.clock_laws.specs.Clocked.{without_clock, without_clocks, HaveTheirClocks}
use Rattle.clock_laws.specs.Joined.{as_one}
use Rattle.clock_laws.proofs.Own.{Grows, of_process, of_here, of_other, all_at, own_added, grows_none, grows_batch, event_on, is_decided, is_behind, send_on, send_there}
use Rattle.clock_laws.proofs.Same.{same_there, same_at, same_send}
use Rattle.clock_laws.proofs.Staying.{KeepsSends, clock_stays}
use Rattle.clock_laws.proofs.Behind.{AreClocked, event_behind}
use Rattle.clock_laws.proofs.OneBatch.{clocked_more}
use Rattle.clock_laws.proofs.Logs.{none_own, upto_new}
use Rattle.clock_laws.proofs.Joined.{joined_events}

-- ---- each event of a batch without a fault has its send

abbrev HasSend : Events → ℕ → Event → Type 0
HasSend all p e = (m : Message) → message_received p e.kind ≡ Some m → (a : ℕ) × (first_send all m ≡ Some a)

some_of : (o : Option ℕ) → not (is_some o) ≡ false → (a : ℕ) × (o ≡ Some a)
some_of None h = absurd (no_bool h)
  where
    no_bool : true ≡ false → ⊥
    no_bool k = cc
some_of (Some a) h = (a, refl)

sent_of : (all : Events) (e : Event) → is_unsent all e ≡ false → HasSend all e.process e
sent_of all e sent m is = some_of (first_send all m) (sym (ap (λ (r : Option Message). choose r (λ n. not (is_some (first_send all n))) false) is) ∙ sent)

all_sent : (before all : Events) (batch : List Event) → fault_from before all batch ≡ None → AllByRecursion (λ (e : Event). HasSend all e.process e) batch
unfolding fault_from
all_sent before all [] none = tt
all_sent before all (e ∷ es) none =
    let parts = chosen_none (event_fault before all e) (at_line e) (fault_from (with_event before e) all es) none in
    let message = (chosen_none (clock_fault (clocks_of all) (place before e) e) (λ (f : LogCode). f) (message_fault before all e) parts.0).1 in
    let twice = none_of (is_twice before e) code.MessageTwice _ message in
    (sent_of all e (none_of (is_unsent all e) code.ReceiveUnsent _ twice.1).0, all_sent (with_event before e) all es parts.1)

of_own : (all : Events) (es : List Event) (p : ℕ) → AllByRecursion (λ (e : Event). HasSend all e.process e) es → AllByRecursion (HasSend all p) (of_process es p)
of_own all [] p each = tt
of_own all (e ∷ es) p each = elim (cases_eq e.process p) [
  | inl same ↦ subst (AllByRecursion (HasSend all p)) (sym (of_here e es p same)) (subst (λ (q : ℕ). HasSend all q e) same each.0, of_own all es p each.1)
  | inr other ↦ subst (AllByRecursion (HasSend all p)) (sym (of_other e es p other)) (of_own all es p each.1)
]

-- ---- events that have their sends

-- the first send of each message that is received is there
abbrev pub HaveSends : Events → Type 0
HaveSends events = (x : Place) → IsThere events x → HasSend events x.process (event_at events x)

pub sends_unclocked : (one other : Events) → without_clocks one ≡ without_clocks other → HaveSends one → HaveSends other
sends_unclocked one other same sends x there m is =
    let found = sends x (same_there without_clock other one (sym same) x there) m (ap (λ (e : Event). message_received x.process e.kind) (same_at without_clock one other same refl x) ∙ is) in
    (found.0, sym (same_send without_clock one other same m (λ e. refl)) ∙ found.1)

sends_more : (events : Events) (batch : List Event) → HaveSends events → batch_fault events batch ≡ None → HaveSends (with_batch events batch)
sends_more events batch sends none x there = elim (is_decided events x) [
  | inl before ↦ λ m is.
      let all = with_batch events batch in
      let found = sends x before m (ap (λ (e : Event). message_received x.process e.kind) (sym (event_on events all x (grows_batch events batch) before)) ∙ is) in
      (found.0, send_on events all m found.0 (grows_batch events batch) found.1)
  | inr not ↦
      let all = with_batch events batch in
      let n = length (own_events events x.process) in
      let process : x.process < length events = omega (arith, there.process, length-with_batch events batch) in
      let behind : n < x.position = is_behind events all x (grows_batch events batch) not there in
      let added : length (own_events all x.process) ≡ n + length (of_process batch x.process) = ap length (own_added events batch x.process process) ∙ length-append (own_events events x.process) (of_process batch x.process) in
      subst (HasSend all x.process) (sym (event_behind events batch x n process refl behind))
      (all_at (HasSend all x.process) (of_process batch x.process) (x.position - 1 - n) no_event (of_own all batch x.process (all_sent events all batch none)) (omega (arith, behind, there.last, added)))
]

-- ---- so their clocks go by them alone

-- filled events with the clocks that they have where all come as one batch
pub record AreSettled (raw filled : Events) : Type 0 where
  pub clocked : AreClocked raw filled (λ y. raw)
  pub sends : HaveSends raw

-- a receipt keeps its send
keeps_sends : (raw new : Events) → Grows raw new → HaveSends raw → KeepsSends raw (λ y. raw) (λ y. new)
keeps_sends raw new grows sends = record {
  within = λ x m a there is. send_there raw m a is;
  stays = λ x m there is.
      let found = sends x there m is in
      send_on raw new m found.0 grows found.1 ∙ sym found.1;
}

settled_more : (raw filled : Events) (batch : List Event) → AllByRecursion (EventStands (length raw)) batch → AreSettled raw filled → batch_fault filled (filled_batch filled batch) ≡ None
    → AreSettled (with_batch raw batch) (with_batch filled (filled_batch filled batch))
settled_more raw filled batch stands settled none =
    let new = with_batch raw batch in
    let more = clocked_more raw filled batch (λ y. raw) (λ y. new) settled.clocked (keeps_sends raw new (grows_batch raw batch) settled.sends) (λ x m there not. refl) stands in
    record {
      clocked = more;
      sends = sends_unclocked (with_batch filled (filled_batch filled batch)) new more.events
          (sends_more filled (filled_batch filled batch) (sends_unclocked raw filled (sym settled.clocked.events) settled.sends) none);
    }

settled_batches : (procs : ℕ) (raw filled : Events) (batches : List (List Event)) → length raw ≡ procs → AllStand procs batches → AreSettled raw filled → batches_fault filled (filled_batches filled batches) ≡ None
    → AreSettled (with_batches raw batches) (with_batches filled (filled_batches filled batches))
unfolding filled_batches batches_fault
settled_batches procs raw filled [] size stand settled none = settled
settled_batches procs raw filled (b ∷ batches) size stand settled none =
    let full = filled_batch filled b in
    let parts = chosen_none (batch_fault filled full) (λ (f : LogFault). f) (batches_fault (with_batch filled full) (filled_batches (with_batch filled full) batches)) none in
    settled_batches procs (with_batch raw b) (with_batch filled full) batches (length-with_batch raw b ∙ size) stand.1
    (settled_more raw filled b (subst (λ (n : ℕ). AllByRecursion (EventStands n) b) (sym size) stand.0) settled parts.0) parts.1

pub log_settled : (procs : ℕ) (batches : List (List Event)) → AllStand procs batches → batches_fault (no_events procs) (filled_batches (no_events procs) batches) ≡ None
    → AreSettled (all_events procs batches) (all_events procs (filled_batches (no_events procs) batches))
log_settled procs batches stand none = settled_batches procs (no_events procs) (no_events procs) batches (length-replicate procs []) stand (record { clocked = record { events = refl; clocks = λ x there. nothing x there }; sends = λ x there. nothing x there }) none
  where
    nothing : {X : Type 0} (x : Place) → IsThere (no_events procs) x → X
    nothing x there = absurd (omega (arith, there.first, there.last, none_own procs x.process))

-- ---- where all come as one batch

module _ (procs : ℕ) (batches : List (List Event)) (stand : AllStand procs batches) (none : batches_fault (no_events procs) (filled_batches (no_events procs) batches) ≡ None) where
  abbrev raw : Events
  raw = all_events procs batches

  abbrev filled : Events
  filled = all_events procs (filled_batches (no_events procs) batches)

  abbrev now : Place → Events
  now = upto_from (no_events procs) (as_one batches ∷ [])

  joined : with_batch (no_events procs) (as_one batches) ≡ raw
  joined = joined_events (no_events procs) batches

  whole : (x : Place) → IsThere raw x → now x ≡ raw
  whole x there =
      upto_new x (no_events procs) [] (as_one batches) (omega (arith, there.first, none_own procs x.process)) (omega (arith, there.last, ap (λ (e : Events). length (own_events e x.process)) joined)) ∙ joined

  keeps : KeepsSends raw (λ y. raw) now
  keeps = record { within = λ x m a there is. send_there raw m a is; stays = λ x m there is. ap (λ (e : Events). first_send e m) (whole x there) }

  pub one_batch_clocked : HaveTheirClocks procs (as_one batches ∷ []) filled
  one_batch_clocked =
      let settled = log_settled procs batches stand none in
      record {
        events = settled.clocked.events ∙ ap without_clocks (sym joined);
        clocks = λ x there.
            let here : IsThere raw x = subst (λ (e : Events). IsThere e x) joined there in
            subst (λ (e : Events). HasClockOf e now x (event_at filled x).clock) (sym joined)
            (clock_stays raw raw (λ y. raw) now (grows_none raw) keeps x (event_at filled x).clock here (settled.clocked.clocks x here));
      }
