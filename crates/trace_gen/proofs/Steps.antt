-- The invariant: the clock of a process, and that of each message on its way, is a consistent cut of the order so far; numbers of
-- messages rise.
use Rattle.std.proofs.Common.{◌≡◌, ℕ, ◌+◌, ◌<◌, ◌≤◌, false, List, [], ◌∷◌, ◌++◌, length, get_or, sym, ap, ◌∙◌, subst, arith, length-append, length-set, inl, inr, le_refl}
use Rattle.std.specs.Prelude.{None, Some}
use Rattle.std.specs.List.{AllByRecursion}
use Rattle.std.proofs.lemmas.Bool.{cases_eq}
use Rattle.run_model.specs.Cut.{Cut, Clocks, count, with_next}
use Rattle.run_model.specs.Consistent.{IsOrder, IsConsistent}
use Rattle.run_model.proofs.Counts.{with_next_same}
use Rattle.event_log.specs.declared.log.Event.{Event}
use Rattle.event_log.specs.States.{with_event}
use Rattle.causal_order.specs.Growth.{with_row}
use Rattle.causal_order.proofs.Growing.{count-lengths}
use Rattle.vector_clock.specs.declared.message.Message.{Message}
use Rattle.vector_clock.specs.Events.{Events, own_events, clocks_of}
use Rattle.vector_clock.specs.Messages.{first_send, first_receipt, sends, receives}
use Rattle.vector_clock.proofs.FirstPlaces.{own_same}
use Rattle.vector_clock.proofs.Growth.{length-clocks_of, own_count, clocks_one}
use Rattle.trace_gen.specs.declared.queue.Sent.{Sent}
use Rattle.trace_gen.specs.declared.process.Process.{Process}
use Rattle.trace_gen.specs.Making.{Processes, process_at}
use Rattle.trace_gen.specs.inside.Making.{CanStep}
use Rattle.trace_gen.proofs.Next.{next_order, next_kept, next_past}
use Rattle.trace_gen.proofs.Places.{none_kept, own_other, one_more, send_stays}

-- the message that waits for process i
abbrev pub to_process : ℕ → Sent → Message
to_process i m = record { sender = m.sender; receiver = i; id = m.id }

-- a message on its way to process i: its clock is a consistent cut that has its send
pub record IsOnItsWay (before : Events) (i : ℕ) (m : Sent) : Type 0 where
  pub there : m.sender < length before
  pub other : m.sender ≡ i → ⊥
  pub past : IsConsistent (clocks_of before) m.clock
  pub place : ℕ
  pub first : first_send before (to_process i m) ≡ Some place
  pub counted : place ≤ count m.clock m.sender

-- the numbers of the waiting messages rise from this one on, and are below k
abbrev pub AreQueued : Events → ℕ → ℕ → ℕ → List Sent → Type 0
AreQueued before i k low [] = low ≤ k
AreQueued before i k low (m ∷ others) = IsOnItsWay before i m × (low ≤ m.id) × AreQueued before i k (m.id + 1) others

-- no message of these numbers was sent
abbrev pub AreUnsent : Events → ℕ → Type 0
AreUnsent before k = (m : Message) → k ≤ m.id → first_send before m ≡ None

-- process i received no message of these numbers
abbrev pub AreUnread : Events → ℕ → ℕ → Type 0
AreUnread before i low = (m : Message) → m.receiver ≡ i → low ≤ m.id → first_receipt before m ≡ None

-- process i may go on, before event number k
pub record GoesOn (before : Events) (k i : ℕ) (p : Process) : Type 0 where
  pub past : IsConsistent (clocks_of before) p.clock
  pub own : count p.clock i ≡ length (own_events before i)
  pub seen : p.seen ≤ length (own_events before i)
  pub low : ℕ
  pub unread : AreUnread before i low
  pub queued : AreQueued before i k low p.waiting

-- all processes may
pub record Going (procs : ℕ) (before : Events) (k : ℕ) (ps : Processes) : Type 0 where
  pub tables : length before ≡ procs
  pub all : length ps ≡ procs
  pub order : IsOrder (clocks_of before)
  pub few : (i : ℕ) → length (own_events before i) ≤ k
  pub unsent : AreUnsent before k
  pub each : (i : ℕ) → i < procs → GoesOn before k i (process_at ps i)

-- ---- what the code asks

wide_messages : (procs : ℕ) (before : Events) (i k low : ℕ) (ms : List Sent) → length before ≡ procs → AreQueued before i k low ms
    → AllByRecursion (λ (m : Sent). length m.clock ≡ procs) ms
wide_messages procs before i k low [] tables queued = tt
wide_messages procs before i k low (m ∷ ms) tables queued =
    (queued.0.past.shaped ∙ length-clocks_of before ∙ tables, wide_messages procs before i k (m.id + 1) ms tables queued.2)

pub can_step : (procs : ℕ) (before : Events) (k : ℕ) (ps : Processes) (i : ℕ) → Going procs before k ps → i < procs → CanStep procs k (process_at ps i)
can_step procs before k ps i going there =
    let p = going.each i there in
    record {
      wide = p.past.shaped ∙ length-clocks_of before ∙ going.tables;
      low = λ j. omega (arith, p.past.within j, count-lengths (clocks_of before) j, own_count before j, going.few j);
      few = omega (arith, p.seen, going.few i);
      waiting = wide_messages procs before i k p.low (process_at ps i).waiting going.tables p.queued;
    }

-- ---- one event more

-- the event may come next: its clock is a consistent cut that has all events of its process, and itself
pub record IsNext (before : Events) (e : Event) : Type 0 where
  pub there : e.process < length before
  pub base : Cut
  pub consistent : IsConsistent (clocks_of before) base
  pub own : count base e.process ≡ length (own_events before e.process)
  pub clock : e.clock ≡ with_next base e.process

module _ (before : Events) (e : Event) (order : IsOrder (clocks_of before)) (is : IsNext before e) where
  in_order : e.process < length (clocks_of before)
  in_order = omega (arith, is.there, length-clocks_of before)

  own_row : count is.base e.process ≡ length (get_or (clocks_of before) e.process [])
  own_row = is.own ∙ sym (own_count before e.process)

  after : clocks_of (with_event before e) ≡ with_row (clocks_of before) e.process (with_next is.base e.process)
  after = clocks_one before e ∙ ap (λ (c : Cut). with_row (clocks_of before) e.process c) is.clock

  pub order_after : IsOrder (clocks_of (with_event before e))
  order_after = subst IsOrder (sym after) (next_order (clocks_of before) order is.base e.process is.consistent in_order own_row)

  pub kept_after : (d : Cut) → IsConsistent (clocks_of before) d → IsConsistent (clocks_of (with_event before e)) d
  kept_after d k = subst (λ (o : Clocks). IsConsistent o d) (sym after) (next_kept (clocks_of before) order is.base e.process is.consistent in_order own_row d k)

  pub past_after : IsConsistent (clocks_of (with_event before e)) e.clock
  past_after = subst (λ (c : Cut). IsConsistent (clocks_of (with_event before e)) c) (sym is.clock)
      (subst (λ (o : Clocks). IsConsistent o (with_next is.base e.process)) (sym after) (next_past (clocks_of before) order is.base e.process is.consistent in_order own_row))

  way_after : (i : ℕ) (m : Sent) → IsOnItsWay before i m → IsOnItsWay (with_event before e) i m
  way_after i m w = record {
    there = omega (arith, w.there, length-set before e.process (own_events before e.process ++ e ∷ []));
    other = w.other;
    past = kept_after m.clock w.past;
    place = w.place;
    first = send_stays before (with_event before e) (to_process i m) w.place (one_more before e is.there) w.first;
    counted = w.counted;
  }

  pub queue_after : (i k low : ℕ) (ms : List Sent) → AreQueued before i k low ms → AreQueued (with_event before e) i k low ms
  queue_after i k low [] q = q
  queue_after i k low (m ∷ ms) q = (way_after i m q.0, q.1, queue_after i k (m.id + 1) ms q.2)

  pub queue_more : (i k low : ℕ) (ms : List Sent) → AreQueued before i k low ms → AreQueued (with_event before e) i (k + 1) low ms
  queue_more i k low [] q = omega (arith, q)
  queue_more i k low (m ∷ ms) q = (way_after i m q.0, q.1, queue_more i k (m.id + 1) ms q.2)

  own_more : length (own_events (with_event before e) e.process) ≡ length (own_events before e.process) + 1
  own_more = ap length (own_same before e is.there) ∙ length-append (own_events before e.process) (e ∷ [])

  pub few_after : (k : ℕ) → ((i : ℕ) → length (own_events before i) ≤ k) → (i : ℕ) → length (own_events (with_event before e) i) ≤ k + 1
  few_after k few i = elim (cases_eq i e.process) [
    | inl same ↦ subst (λ j. length (own_events (with_event before e) j) ≤ k + 1) (sym same) (omega (arith, own_more, few e.process))
    | inr other ↦ omega (arith, ap length (own_other before e i other), few i)
  ]

  -- a message whose number the event doesn't send is still unsent
  pub unsent_after : (k : ℕ) → ((m : Message) → k + 1 ≤ m.id → sends m e ≡ false) → AreUnsent before k → AreUnsent (with_event before e) (k + 1)
  unsent_after k fails unsent m high = none_kept (sends m) before e m.sender is.there (fails m high) (unsent m (omega arith))

  pub unread_after : (i low high : ℕ) → low ≤ high → ((m : Message) → m.receiver ≡ i → high ≤ m.id → receives m e ≡ false) → AreUnread before i low → AreUnread (with_event before e) i high
  unread_after i low high le fails unread m to from = none_kept (receives m) before e m.receiver is.there (fails m to from) (unread m to (omega arith))

  -- a process that does nothing
  pub idle : (k i : ℕ) (p : Process) → (i ≡ e.process → ⊥) → ((m : Message) → m.receiver ≡ i → receives m e ≡ false) → GoesOn before k i p → GoesOn (with_event before e) (k + 1) i p
  idle k i p other fails goes = record {
    past = kept_after p.clock goes.past;
    own = goes.own ∙ sym (ap length (own_other before e i other));
    seen = omega (arith, goes.seen, ap length (own_other before e i other));
    low = goes.low;
    unread = unread_after i goes.low goes.low (le_refl goes.low) (λ m to high. fails m to) goes.unread;
    queued = queue_more i k goes.low p.waiting goes.queued;
  }

  -- the process of the event, where these messages wait then
  pub active : (k low seen : ℕ) (ms : List Sent) → seen ≤ length (own_events before e.process) + 1 → AreUnread (with_event before e) e.process low
      → AreQueued (with_event before e) e.process (k + 1) low ms → GoesOn (with_event before e) (k + 1) e.process (record { clock = e.clock; seen = seen; waiting = ms })
  active k low seen ms few unread queued = record {
    past = past_after;
    own = ap (λ (c : Cut). count c e.process) is.clock ∙ with_next_same is.base e.process (omega (arith, is.consistent.shaped, in_order)) ∙ ap (λ n. n + 1) is.own ∙ sym own_more;
    seen = omega (arith, few, own_more);
    low = low;
    unread = unread;
    queued = queued;
  }

-- a message behind those that wait, with the number k
pub queued_last : (before : Events) (i low : ℕ) (ms : List Sent) (m : Sent) → (above : ℕ) → above ≡ m.id + 1 → IsOnItsWay before i m → AreQueued before i m.id low ms → AreQueued before i above low (ms ++ m ∷ [])
queued_last before i low [] m above is way q = (way, q, omega arith)
queued_last before i low (x ∷ ms) m above is way q = (q.0, q.1, queued_last before i (x.id + 1) ms m above is way q.2)
