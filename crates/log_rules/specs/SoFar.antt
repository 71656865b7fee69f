-- The run of a log so far, and how many batches it has.
use Rattle.std.specs.Prelude.{ℕ, min, List, length}
use Rattle.run_model.specs.Run.{Trace}
use Rattle.event_log.specs.declared.log.Event.{Event}
use Rattle.event_log.specs.declared.log.Header.{Header}
use Rattle.event_log.specs.States.{trace_of, with_batches}
use Rattle.vector_clock.specs.Events.{no_events}

-- the run of a header and the batches so far
abbrev pub trace_so_far : Header → List (List Event) → Trace
trace_so_far h batches =
    trace_of (record { header = h; events = with_batches (no_events (length h.procs)) batches })

-- how many batches there are, as far as 32 bits count
abbrev pub counted : List (List Event) → ℕ
counted batches = min (length batches) 4294967295
