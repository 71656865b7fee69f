-- Logs that tell of one run.
use Rattle.std.specs.Prelude.{◌≡◌, length, map, None}
use Rattle.event_log.specs.declared.log.Event.{Event}
use Rattle.event_log.specs.declared.log.Log.{Log}
use Rattle.vector_clock.specs.Events.{Events, AllStand}
use Rattle.vector_clock.specs.Faults.{log_fault}
use Rattle.vector_clock.specs.Fill.{all_events}
use Rattle.vector_clock.specs.Filled.{filled_log}

-- the event as if it stood on no line
abbrev pub without_line : Event → Event
without_line e = record e { line = 0 }

abbrev pub without_lines : Events → Events
without_lines events = map (map without_line) events

-- the events of each process as the log has them, clocks that its text leaves out among them
abbrev pub events_of : Log → Events
events_of log = all_events (length log.header.procs) log.batches

-- The logs have the same processes and variables, with the same opening values, and the same events
-- on each process. On which lines they stand, in which order those of different processes come, and
-- in which batches, is left open.
pub record TellOfOneRun (log other : Log) : Type 0 where
  pub procs : other.header.procs ≡ log.header.procs
  pub vars : other.header.vars ≡ log.header.vars
  pub events : without_lines (events_of other) ≡ without_lines (events_of log)

-- there is a list of variables for each process, each event has its place, and once their clocks
-- are filled in the batches have no fault
pub record IsFaultless (log : Log) : Type 0 where
  pub vars : length log.header.vars ≡ length log.header.procs
  pub each : AllStand (length log.header.procs) log.batches
  pub faultless : log_fault (filled_log log) ≡ None
