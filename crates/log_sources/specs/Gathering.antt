-- The sources of an input that is read.
use Rattle.std.specs.Prelude.{◌≡◌, ℕ, ◌≤◌, Bool, true, false, List, Option, Some, None}
use Rattle.std.specs.Io.KnownBytes.{Consumes, IsAtEnd}
use Rattle.pota_base.specs.Outside.{Rose}
use Rattle.pota_base.specs.Changes.{Change}
use Rattle.event_log.specs.declared.log.Log.{Log}
use Rattle.fault_kinds.specs.declared.merge.MergeFault.{MergeFault}
use Rattle.log_sources.specs.declared.gathering.Gathered.{Gathered}
use Rattle.log_sources.specs.declared.gathering.Gathered.TheVariants.{Logs, Fault, Failed}
use Rattle.log_sources.specs.Sources.{Sources, no_sources, after, last_fault, logs_of}
use Rattle.log_sources.specs.Reading.{CanMerge}

-- there is a fault
pub record IsFaulty (s : Sources) : Type 0 where
  pub first : MergeFault
  pub is : s.fault ≡ Some first

-- the first fault of the bytes, where the input has ended with them and where more may follow
abbrev pub sources_fault : (ended : Bool) → List ℕ → Option MergeFault
sources_fault false bytes = (after no_sources bytes).fault
sources_fault true bytes = last_fault (after no_sources bytes)

-- these are the logs of the bytes, which have no fault
pub record AreGathered (bytes : List ℕ) (logs : List Log) : Type 0 where
  pub faultless : last_fault (after no_sources bytes) ≡ None
  pub are : logs ≡ logs_of (after no_sources bytes)
  pub can_merge : CanMerge logs

-- what is told of these bytes
abbrev pub GathersTo : Option (List ℕ) → ℕ → ℕ → List ℕ → Gathered → Type 0
GathersTo left faults faults' bytes (Logs logs) = IsAtEnd left × AreGathered bytes logs
GathersTo left faults faults' bytes (Fault f) =
    (ended : Bool) × (ended ≡ true → IsAtEnd left) × (sources_fault ended bytes ≡ Some f)
GathersTo left faults faults' bytes Failed =
    (sources_fault false bytes ≡ None) × Rose faults faults'

-- some bytes were read, and this is told of them
pub record Gathers (left left' : Option (List ℕ)) (faults faults' : ℕ) (g : Gathered) : Type 0
  where
    pub read : List ℕ
    pub consumed : Consumes left left' read
    pub later : faults ≤ faults'
    pub to : GathersTo left' faults faults' read g

-- the same, of a source before and after
abbrev pub HasGathered : Change → Gathered → Type 0
HasGathered s g = Gathers s.before s.after s.faults_before s.faults_after g
