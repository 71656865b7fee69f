-- How a fault at a line of a log that stands whole is told.
use Rattle.std.specs.Prelude.{Result, Ok, Err}
use Rattle.event_log.specs.declared.item.LogFault.{LogFault}
use Rattle.fault_kinds.specs.declared.refusal.Refusal.{Refusal}
use Rattle.fault_kinds.specs.declared.refusal.Refusal.TheVariants as refusal
use Rattle.log_rules.specs.Due.{placed}
use Rattle.log_answers.specs.declared.stop.StopCause.{StopCause}
use Rattle.log_answers.specs.declared.stop.StopCause.TheVariants as causes
use Rattle.log_answers.specs.declared.stop.Stop.{Stop}
use Rattle.log_answers.specs.declared.stop.Verdict.{Verdict}
use Rattle.form_readings.specs.Sources.{origin_at, fault_at}
use Rattle.whole_answers.specs.declared.places.Places.{Places}
use Rattle.whole_answers.specs.declared.places.Places.TheVariants.{Lines, Origins}

-- the place of a fault of the log
abbrev pub place_by : Places → LogFault → Refusal
place_by Lines f = refusal.Log f
place_by (Origins origins) f = refusal.Merge (fault_at (origin_at origins f.line) f)

-- a cause with the fault of a log told at its place
abbrev pub placed_cause : (place : LogFault → Refusal) → StopCause → StopCause
placed_cause place (causes.Refused r) = causes.Refused (placed place r)
placed_cause place causes.Read = causes.Read
placed_cause place causes.Write = causes.Write
placed_cause place causes.Memory = causes.Memory

-- and so an answer
abbrev pub placed_result : (place : LogFault → Refusal) → Result Verdict Stop
    → Result Verdict Stop
placed_result place (Ok v) = Ok v
placed_result place (Err stop) = Err (record stop { cause = placed_cause place stop.cause })
