-- Records of two lines, of which the first has a vector clock, as a log that stands once all bytes
-- are there.
use Rattle.std.specs.Prelude.{ℕ, Bool, true, false, List, Option, None, if◌then◌else◌}
use Rattle.std.specs.Option.{option_map}
use Rattle.event_log.specs.declared.item.LogFault.{LogFault}
use Rattle.vclog_import.specs.Faults.{fault_of, is_too_long}
use Rattle.vclog_import.specs.Imported.{imported}
use Rattle.fault_kinds.specs.declared.refusal.Refusal.{Refusal}
use Rattle.fault_kinds.specs.declared.refusal.Refusal.TheVariants as refusal
use Rattle.log_rules.specs.Readings.{Reading, whole_reading}

-- the first fault of a text, as a refusal
abbrev pub import_refusal : List ℕ → Option Refusal
import_refusal bytes = option_map (λ f. refusal.Import f) (fault_of bytes)

-- where more may follow there is no fault before the byte that is too much
abbrev pub clocks_fault : (ended : Bool) → List ℕ → Option Refusal
clocks_fault false bytes = if is_too_long bytes then import_refusal bytes else None
clocks_fault true bytes = import_refusal bytes

-- an event of the imported log has the line of its host, and so its fault
abbrev pub clocks_place : List ℕ → LogFault → Refusal
clocks_place bytes f = refusal.Log f

abbrev pub clocks_reading : Reading
clocks_reading = whole_reading clocks_fault imported clocks_place
