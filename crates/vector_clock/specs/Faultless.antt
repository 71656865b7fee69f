-- Events without a fault, and the runs that they are.
use Rattle.std.specs.Prelude.{◌≡◌, ℕ, List, None}
use Rattle.std.specs.List.{AllByRecursion}
use Rattle.run_model.specs.Run.{Trace, Watches, run_of}
use Rattle.run_model.specs.Meaning.{IsRun, ReceiptsHaveSends}
use Rattle.event_log.specs.declared.log.Event.{Event}
use Rattle.event_log.specs.States.{with_batch}
use Rattle.vector_clock.specs.Events.{Events, EventFits, no_events}
use Rattle.vector_clock.specs.Faults.{batch_fault}

-- the events of so many processes that came batch after batch, none of which had a fault
pub data AreFaultless (procs : ℕ) : Events → Type 0 where
  no_batch : AreFaultless procs (no_events procs)
  one_batch : {before : Events} → (batch : List Event) → AreFaultless procs before
      → AllByRecursion (EventFits procs) batch
      → batch_fault before batch ≡ None → AreFaultless procs (with_batch before batch)

-- whatever the watches are, this is a run, and at a consistent cut no channel has more receipts
-- than sends
pub record IsLoggedRun (trace : Trace) : Type 0 where
  pub run : (watches : Watches) → IsRun (run_of trace watches)
  pub receipts : (watches : Watches) → ReceiptsHaveSends (run_of trace watches)
