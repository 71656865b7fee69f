-- A trace that grows batch by batch.
use Rattle.std.specs.Prelude.{◌≡◌, ℕ, ◌+◌, ◌^◌, ◌-◌, min, Bool, false, List, length, Option}
use Rattle.std.specs.List.{AllByRecursion}
use Rattle.event_log.specs.declared.log.Event.{Event}
use Rattle.event_log.specs.declared.log.Header.{Header}
use Rattle.event_log.specs.declared.item.LogFault.{LogFault}
use Rattle.event_log.specs.States.{StatesView, AreWhole, MayFollow, opened, with_batch}
use Rattle.event_log.specs.States.{trace_of}
use Rattle.run_model.specs.Run as run
use Rattle.vector_clock.specs.Events.{EventStands, clocks_of}
use Rattle.vector_clock.specs.Faults.{batch_fault}
use Rattle.vector_clock.specs.Filled.{filled_batch}
use Rattle.vector_clock.specs.Faultless.{AreFaultless, IsLoggedRun}

-- the data of the events that were taken, how many batches they came in, and whether memory was
-- wanted
pub record TraceView : Type 0 where
  pub states : StatesView
  pub batches : ℕ
  pub spent : Bool

-- a trace without batches
abbrev pub opened_trace : Header → TraceView
opened_trace header = record { states = opened header; batches = 0; spent = false }

-- one batch more; the count stays at the greatest number of 32 bits
abbrev pub one_more : ℕ → ℕ
one_more batches = min (batches + 1) (2 ^ 32 - 1)

-- the events of a batch behind those of the trace, with the clocks that the batch leaves out
abbrev pub filled_for : TraceView → List Event → List Event
filled_for trace batch = filled_batch trace.states.events batch

-- the first fault of a batch, once its clocks are filled in
abbrev pub trace_fault : TraceView → List Event → Option LogFault
trace_fault trace batch = batch_fault trace.states.events (filled_for trace batch)

-- the trace with the events of a batch, their clocks filled in, behind those that are there
abbrev pub with_trace_batch : TraceView → List Event → TraceView
with_trace_batch trace batch = record {
  states = record {
    header = trace.states.header;
    events = with_batch trace.states.events (filled_for trace batch);
  };
  batches = one_more trace.batches;
  spent = trace.spent;
}

-- the batch fits the batches before it: it may follow their events, and each of its events has its
-- place among the processes, its clock left out or not
pub record FitsTrace (trace : TraceView) (batch : List Event) : Type 0 where
  pub follows : MayFollow trace.states.header trace.states.events batch
  pub each : AllByRecursion (EventStands (length trace.states.events)) batch

-- what a trace is at each moment: data of processes whose events came batch after batch without a
-- fault. So it is a run, whose receipts have their sends, and the vector clocks of its events are
-- those of the run
pub record IsTrace (states : StatesView) : Type 0 where
  pub whole : AreWhole states
  pub faultless : AreFaultless (length states.header.procs) states.events
  pub clocks : run.clocks_of (trace_of states) ≡ clocks_of states.events
  pub run : IsLoggedRun (trace_of states)
