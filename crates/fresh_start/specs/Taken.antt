-- Batches that a trace takes, one behind the other or as one.
use Rattle.std.specs.Prelude.{◌≡◌, List, [], ◌∷◌, None}
use Rattle.event_log.specs.declared.log.Event.{Event}
use Rattle.event_log.specs.declared.log.Header.{Header}
use Rattle.trace_growth.specs.Growing.{TraceView, FitsTrace, opened_trace, trace_fault}
use Rattle.trace_growth.specs.Growing.{with_trace_batch}
use Rattle.clock_laws.specs.Joined.{as_one}

-- each of the batches fits the trace when its turn comes, and has no fault
abbrev pub TakesAll : TraceView → List (List Event) → Type 0
TakesAll trace [] = Unit {0}
TakesAll trace (batch ∷ rest) =
    FitsTrace trace batch × (trace_fault trace batch ≡ None)
    × TakesAll (with_trace_batch trace batch) rest

-- the trace with all of them
abbrev pub after_all : TraceView → List (List Event) → TraceView
after_all trace [] = trace
after_all trace (batch ∷ rest) = after_all (with_trace_batch trace batch) rest

-- what a trace takes batch by batch, as the batches came, a fresh one takes as one batch
abbrev pub AFreshTraceTakesThemAsOne : Type 0
AFreshTraceTakesThemAsOne =
    (header : Header) (batches : List (List Event)) → TakesAll (opened_trace header) batches
    → TakesAll (opened_trace header) (as_one batches ∷ [])

-- and comes to the same states, with the same clocks
abbrev pub AndComesToTheSameStates : Type 0
AndComesToTheSameStates =
    (header : Header) (batches : List (List Event)) → TakesAll (opened_trace header) batches
    → (after_all (opened_trace header) (as_one batches ∷ [])).states
    ≡ (after_all (opened_trace header) batches).states
