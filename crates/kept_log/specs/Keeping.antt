-- Which logs are folded.
use Rattle.std.specs.Prelude.{◌≡◌, ◌≤◌, length, None}
use Rattle.pota_base.specs.Limits.{most_events}
use Rattle.event_log.specs.declared.log.Log.{Log}
use Rattle.event_log.specs.LogText.{event_count}
use Rattle.log_writing.specs.Spelling.{HasText}
use Rattle.vector_clock.specs.Events.{AllFit}
use Rattle.vector_clock.specs.Faults.{log_fault}

-- a log that has a text, with each clock written and no fault of its clocks and messages
pub record CanBeKept (log : Log) : Type 0 where
  pub text : HasText log
  pub clocks : AllFit (length log.header.procs) log.batches
  pub faultless : log_fault log ≡ None
  pub events : event_count log.batches ≤ most_events
