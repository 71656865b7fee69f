-- The first fault of the clocks and messages of a batch.
use Rattle.std.specs.Prelude.{ℕ, ◌-◌, Bool, false, not, ◌&&◌, ◌||◌, ◌==◌, nat_lt, nat_le, List, []}
use Rattle.std.specs.Prelude.{◌∷◌, length, Option, None, Some, is_some, if◌then◌else◌}
use Rattle.event_log.specs.PassedOn.{choose}
use Rattle.run_model.specs.Cut.{Cut, Clocks, count, lengths}
use Rattle.run_model.specs.Consistent as order
use Rattle.event_log.specs.declared.item.LogCode.{LogCode}
use Rattle.event_log.specs.declared.item.LogCode.TheVariants as code
use Rattle.event_log.specs.declared.item.LogFault.{LogFault}
use Rattle.event_log.specs.declared.log.Event.{Event}
use Rattle.event_log.specs.declared.log.Log.{Log}
use Rattle.event_log.specs.States.{with_event, with_batch}
use Rattle.vector_clock.specs.Events.{Events, no_events, clocks_of, place, some_below, is_beyond}
use Rattle.vector_clock.specs.Messages.{message_sent, message_received, first_send, first_receipt}

-- ---- the faults of a clock. Here o has the clocks of all events up to the end of the batch, and a
-- is the event's place on its process

-- the clock names an event of process j: it counts events of j, and j isn't the event's own process
abbrev pub names : Event → ℕ → Bool
names e j = not (j == e.process) && nat_lt 0 (count e.clock j)

-- the clock of the named event of process j: the last one of j that the event's clock counts
abbrev pub named_clock : Clocks → Event → ℕ → Cut
named_clock o e j = order.clock o j (count e.clock j)

-- the count of its own process isn't its place
abbrev pub has_wrong_own : ℕ → Event → Bool
has_wrong_own a e = not (count e.clock e.process == a)

-- a count is less than that of the event before on its process
abbrev pub goes_back : Clocks → ℕ → Event → Bool
goes_back o a e = nat_lt 1 a && is_beyond (order.clock o e.process (a - 1)) e.clock

-- a count is greater than the number of events of its process
abbrev pub is_dangling : Clocks → Event → Bool
is_dangling o e = is_beyond e.clock (lengths o)

-- the clock of a named event isn't within the event's clock
abbrev pub is_open : Clocks → Event → Bool
is_open o e = some_below (length e.clock) (λ j. names e j && is_beyond (named_clock o e j) e.clock)

-- a named event has the event in its own past
abbrev pub is_loop : Clocks → ℕ → Event → Bool
is_loop o a e =
    some_below (length e.clock) (λ j. names e j && nat_le a (count (named_clock o e j) e.process))

abbrev pub clock_fault : Clocks → ℕ → Event → Option LogCode
clock_fault o a e =
    if has_wrong_own a e then Some code.ClockOwn
    else if goes_back o a e then Some code.ClockBack
    else if is_dangling o e then Some code.ClockDangling
    else if is_open o e then Some code.ClockOpen
    else if is_loop o a e then Some code.ClockLoop
    else None

-- ---- the faults of a message. Here `before` has the events of the log before the event, and `all`
-- those up to the end of the batch

-- it sends, or receives, a message that an event before it sends, or receives
abbrev pub is_twice : Events → Event → Bool
is_twice before e =
    choose (message_sent e.process e.kind) (λ m. is_some (first_send before m)) false
    || choose (message_received e.process e.kind) (λ m. is_some (first_receipt before m)) false

-- it receives a message that no event up to the end of the batch sends
abbrev pub is_unsent : Events → Event → Bool
is_unsent all e =
    choose (message_received e.process e.kind) (λ m. not (is_some (first_send all m))) false

-- it receives a message, and its clock doesn't count the first send of it
abbrev pub is_early : Events → Event → Bool
is_early all e =
    choose (message_received e.process e.kind)
    (λ m. choose (first_send all m) (λ a. nat_lt (count e.clock m.sender) a) false) false

abbrev pub message_fault : Events → Events → Event → Option LogCode
message_fault before all e =
    if is_twice before e then Some code.MessageTwice
    else if is_unsent all e then Some code.ReceiveUnsent
    else if is_early all e then Some code.ReceiveEarly
    else None

-- ---- the first fault of many events

-- its clock is judged before its message
abbrev pub event_fault : Events → Events → Event → Option LogCode
event_fault before all e =
    choose (clock_fault (clocks_of all) (place before e) e) (λ f. Some f)
    (message_fault before all e)

-- at the line of its event
abbrev pub at_line : Event → LogCode → LogFault
at_line e fault = record { code = fault; line = e.line }

-- each event goes through all faults before the next one
unfoldable pub fault_from : Events → Events → List Event → Option LogFault
fault_from before all [] = None
fault_from before all (e ∷ rest) =
    choose (event_fault before all e) (λ f. Some (at_line e f))
    (fault_from (with_event before e) all rest)

-- the first fault of a batch behind these events
abbrev pub batch_fault : Events → List Event → Option LogFault
batch_fault before batch = fault_from before (with_batch before batch) batch

-- the first fault of batches, one behind the other
unfoldable pub batches_fault : Events → List (List Event) → Option LogFault
batches_fault before [] = None
batches_fault before (batch ∷ rest) =
    choose (batch_fault before batch) (λ f. Some f) (batches_fault (with_batch before batch) rest)

-- the first fault of the clocks and messages of a log
abbrev pub log_fault : Log → Option LogFault
log_fault log = batches_fault (no_events (length log.header.procs)) log.batches
