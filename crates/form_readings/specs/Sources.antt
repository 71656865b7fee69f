-- The texts of several logs one behind another, which are merged, as a log that stands once all
-- bytes are there.
use Rattle.std.specs.Prelude.{ℕ, ◌-◌, Bool, true, false, List, get_or, Option}
use Rattle.std.specs.Option.{option_map}
use Rattle.event_log.specs.declared.item.LogFault.{LogFault}
use Rattle.event_log.specs.declared.log.Log.{Log}
use Rattle.fault_kinds.specs.declared.merge.MergeCode.TheVariants as code
use Rattle.fault_kinds.specs.declared.merge.MergeFault.{MergeFault}
use Rattle.log_merge.specs.declared.merged.Merged.{Merged}
use Rattle.log_merge.specs.declared.merged.Origin.{Origin}
use Rattle.log_merge.specs.Merging.{merged}
use Rattle.log_sources.specs.Sources.{no_sources, after, last_fault, logs_of}
use Rattle.fault_kinds.specs.declared.refusal.Refusal.{Refusal}
use Rattle.fault_kinds.specs.declared.refusal.Refusal.TheVariants as refusal
use Rattle.log_rules.specs.Readings.{Reading, whole_reading}

-- the logs of these bytes, merged
abbrev pub merged_of : List ℕ → Merged
merged_of bytes = merged (logs_of (after no_sources bytes))

abbrev pub merged_log_of : List ℕ → Log
merged_log_of bytes = (merged_of bytes).log

-- where the event of this number comes from; an event has its number as its line
abbrev pub origin_at : List Origin → ℕ → Origin
origin_at origins line = get_or origins (line - 1) (record { source = 0; line = 0 })

-- a fault of an event of the merged log, at the source and the line that the event comes from
abbrev pub fault_at : Origin → LogFault → MergeFault
fault_at origin f =
    record { code = code.Log f.code; source = origin.source; line = origin.line }

abbrev pub merged_place : List ℕ → LogFault → Refusal
merged_place bytes f = refusal.Merge (fault_at (origin_at (merged_of bytes).origins f.line) f)

-- the first fault of the sources, and where the input has ended that of the last one's end too
abbrev pub merged_fault : (ended : Bool) → List ℕ → Option Refusal
merged_fault false bytes = option_map (λ f. refusal.Merge f) (after no_sources bytes).fault
merged_fault true bytes = option_map (λ f. refusal.Merge f) (last_fault (after no_sources bytes))

abbrev pub merged_reading : Reading
merged_reading = whole_reading merged_fault merged_log_of merged_place
