-- What a batch adds to a trace, as statements.
use Rattle.std.specs.Prelude.{◌≡◌, ℕ, ℤ, List, ◌++◌, None}
use Rattle.event_log.specs.declared.log.Event.{Event}
use Rattle.event_log.specs.States.{trace_of}
use Rattle.run_model.specs.Run as run
use Rattle.vector_clock.specs.PassedOn.{HasGrown}
use Rattle.vector_clock.specs.Events.{clocks_of}
use Rattle.trace_growth.specs.Growing.{TraceView, IsTrace, FitsTrace, trace_fault}
use Rattle.trace_growth.specs.Growing.{with_trace_batch}

-- the states of each process are the old ones with more behind them
abbrev pub StatesHaveGrown : run.Trace → run.Trace → Type 0
StatesHaveGrown old new = (p : ℕ) → (more : List (List ℤ))
    × (run.states_of (run.process_at new p) ≡ run.states_of (run.process_at old p) ++ more)

-- a batch that fits puts clocks and states behind those that are there, and changes none
abbrev pub BatchOnlyAdds : Type 0
BatchOnlyAdds =
    (trace : TraceView) (batch : List Event) → IsTrace trace.states → FitsTrace trace batch
    → HasGrown (clocks_of trace.states.events)
    (clocks_of (with_trace_batch trace batch).states.events)
    × StatesHaveGrown (trace_of trace.states) (trace_of (with_trace_batch trace batch).states)

-- after a batch without a fault it is a trace again
abbrev pub FaultlessBatchKeepsATrace : Type 0
FaultlessBatchKeepsATrace =
    (trace : TraceView) (batch : List Event) → IsTrace trace.states → FitsTrace trace batch
    → trace_fault trace batch ≡ None → IsTrace (with_trace_batch trace batch).states
