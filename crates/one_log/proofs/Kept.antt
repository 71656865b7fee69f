-- A log that was read can be kept.
use Rattle.event_log.specs.declared.log.Log.{Log}
use Rattle.kept_log.specs.Keeping.{CanBeKept}
use Rattle.log_input.specs.Inputs.{IsFaultless}

pub kept_so : (log : Log) → IsFaultless log → CanBeKept log
kept_so log is = record { text = is.text; clocks = is.clocks; faultless = is.faultless; events = is.events }
