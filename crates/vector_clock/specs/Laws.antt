-- Laws of the checks of clocks, as statements.
use Rattle.std.specs.Prelude.{◌≡◌, ℕ, ◌-◌, ◌<◌, false, List, None, length}
use Rattle.std.specs.List.{AllByRecursion}
use Rattle.run_model.specs.Cut.{Cut, Clocks}
use Rattle.run_model.specs.Run as run
use Rattle.run_model.specs.Consistent.{IsOrder}
use Rattle.event_log.specs.declared.log.Event.{Event}
use Rattle.event_log.specs.declared.log.Log.{Log}
use Rattle.event_log.specs.States.{StatesView, with_batches, trace_of, trace_of_log}
use Rattle.vector_clock.specs.Events.{Events, EventFits, AllFit, no_events, clocks_of, EventStands}
use Rattle.vector_clock.specs.Events.{AllStand}
use Rattle.vector_clock.specs.Faults.{has_wrong_own, goes_back, is_open, is_loop, batches_fault}
use Rattle.vector_clock.specs.Faults.{log_fault}
use Rattle.vector_clock.specs.Faultless.{AreFaultless, IsLoggedRun}
use Rattle.vector_clock.specs.Fill.{Place, HasClockOf}
use Rattle.vector_clock.specs.Filled.{clock_of, filled_batch}
use Rattle.vector_clock.specs.Filled.{filled_batches, filled_log}
use Rattle.vector_clock.specs.Sound.{IsSound, is_newly_open, is_newly_loop}

-- the clocks of batches without a fault are those of an order
abbrev pub NoFaultIsAnOrder : Type 0
NoFaultIsAnOrder = (procs : ℕ) (batches : List (List Event)) → AllFit procs batches
    → batches_fault (no_events procs) batches ≡ None
    → IsOrder (clocks_of (with_batches (no_events procs) batches))

-- a log that has no fault once its clocks are filled in is a run, whose receipts have their sends
abbrev pub NoFaultIsARun : Type 0
NoFaultIsARun =
    (log : Log) → length log.header.vars ≡ length log.header.procs
    → AllStand (length log.header.procs) log.batches → log_fault (filled_log log) ≡ None
    → IsLoggedRun (trace_of_log (filled_log log))

-- and so are events that came batch after batch without a fault, with a list of variables for each
-- process
abbrev pub FaultlessIsARun : Type 0
FaultlessIsARun = (s : StatesView) → length s.header.vars ≡ length s.header.procs
    → AreFaultless (length s.header.procs) s.events → IsLoggedRun (trace_of s)

-- the clocks of that run are those of the events
abbrev pub RunHasTheClocks : Type 0
RunHasTheClocks =
    (s : StatesView) → length s.header.procs ≡ length s.events
    → length s.header.vars ≡ length s.events
    → run.clocks_of (trace_of s) ≡ clocks_of s.events

-- where the event before on its process has no fault of its clock, and the event's own count and
-- its rise are right, only the events that its clock newly names decide whether it is open or in a
-- loop
abbrev pub OnlyNewNamesCount : Type 0
OnlyNewNamesCount =
    (o : Clocks) (a : ℕ) (e : Event) → (1 < a → IsSound o e.process (a - 1))
    → has_wrong_own a e ≡ false → goes_back o a e ≡ false
    → (is_open o e ≡ is_newly_open o a e) × (is_loop o a e ≡ is_newly_loop o a e)

-- ---- clocks that are left out

-- an event has one clock alone
abbrev pub OneClock : Type 0
OneClock =
    (events : Events) (among : Place → Events) (x : Place) (one other : Cut)
    → HasClockOf events among x one → HasClockOf events among x other → one ≡ other

-- and it has one: that of the function, for a batch behind filled events
abbrev pub EachHasOne : Type 0
EachHasOne =
    (events : Events) (x : Place) → HasClockOf events (λ y. events) x (clock_of events x)

-- a batch whose clocks are all written is filled already
abbrev pub WrittenStays : Type 0
WrittenStays =
    (procs : ℕ) (before : Events) (batch : List Event) → 0 < procs
    → AllByRecursion (EventFits procs) batch → filled_batch before batch ≡ batch

-- and so are batches whose clocks are all written
abbrev pub WrittenLogStays : Type 0
WrittenLogStays =
    (procs : ℕ) (before : Events) (batches : List (List Event)) → 0 < procs
    → AllFit procs batches → filled_batches before batches ≡ batches

-- a batch that stands fits once it is filled
abbrev pub FilledFits : Type 0
FilledFits =
    (before : Events) (batch : List Event)
    → AllByRecursion (EventStands (length before)) batch
    → AllByRecursion (EventFits (length before)) (filled_batch before batch)
