-- How a fault at a line of a log that stands whole is told.
use Rattle.event_log.specs.declared.item.LogFault.{LogFault}
use Rattle.fault_kinds.specs.declared.refusal.Refusal.{Refusal}
use Rattle.fault_kinds.specs.declared.refusal.Refusal.TheVariants as refusal
use Rattle.form_readings.specs.Sources.{origin_at, fault_at}
use Rattle.log_input.specs.declared.places.Places.{Places}
use Rattle.log_input.specs.declared.places.Places.TheVariants.{Lines, Origins}

-- the place of a fault of the log
abbrev pub place_by : Places → LogFault → Refusal
place_by Lines f = refusal.Log f
place_by (Origins origins) f = refusal.Merge (fault_at (origin_at origins f.line) f)
