-- What an input is once it was read, where its log stands only then.
use Rattle.std.specs.Prelude.{◌≡◌, ℕ, ◌≤◌, Bool, true, false, List, Option, Some, None}
use Rattle.std.specs.Io.KnownBytes.{Consumes, IsAtEnd}
use Rattle.pota_base.specs.Outside.{Rose}
use Rattle.pota_base.specs.Changes.{Change}
use Rattle.event_log.specs.declared.item.LogFault.{LogFault}
use Rattle.event_log.specs.declared.log.Log.{Log}
use Rattle.vclog_import.specs.Imported.{imported}
use Rattle.fault_kinds.specs.declared.refusal.Refusal.{Refusal}
use Rattle.log_rules.specs.Readings.{Reading, whole_reading}
use Rattle.form_readings.specs.Clocks.{clocks_fault, clocks_place}
use Rattle.form_readings.specs.Sources.{merged_fault, merged_log_of, merged_place}
use Rattle.whole_answers.specs.declared.places.Places.{Places}
use Rattle.whole_answers.specs.declared.standing.Standing.{Standing}
use Rattle.whole_answers.specs.declared.standing.Standing.TheVariants.{Whole, Faulty, Failed}
use Rattle.whole_answers.specs.inside.Places.{place_by}

-- a form of input: the fault of its bytes, their log, and how a fault at a line of that is told
pub record Input : Type 0 where
  pub fault : (ended : Bool) → List ℕ → Option Refusal
  pub log : List ℕ → Log
  pub place : List ℕ → LogFault → Refusal

abbrev pub reading_by : Input → Reading
reading_by form = whole_reading form.fault form.log form.place

-- records of two lines, of which the first has a vector clock
abbrev pub clocks : Input
clocks = record { fault = clocks_fault; log = imported; place = clocks_place }

-- several logs one behind another
abbrev pub sources : Input
sources = record { fault = merged_fault; log = merged_log_of; place = merged_place }

-- the bytes have no fault, and this is their log
pub record IsWhole (form : Input) (bytes : List ℕ) (log : Log) (places : Places) : Type 0 where
  pub faultless : form.fault true bytes ≡ None
  pub log_is : log ≡ form.log bytes
  pub placed_so : (f : LogFault) → place_by places f ≡ form.place bytes f

-- what the bytes are where the input has ended with them
abbrev pub StandsAt : Input → List ℕ → Standing → Type 0
StandsAt form bytes (Whole log places) = IsWhole form bytes log places
StandsAt form bytes (Faulty r) = form.fault true bytes ≡ Some r
StandsAt form bytes Failed = ⊥

-- what is told of the bytes
abbrev pub StandsTo : Input → Option (List ℕ) → ℕ → ℕ → List ℕ → Standing → Type 0
StandsTo form left lf lf' bytes (Whole log places) =
    IsAtEnd left × IsWhole form bytes log places
StandsTo form left lf lf' bytes (Faulty r) =
    (ended : Bool) × (ended ≡ true → IsAtEnd left) × (form.fault ended bytes ≡ Some r)
StandsTo form left lf lf' bytes Failed = (form.fault false bytes ≡ None) × Rose lf lf'

-- some bytes were read, and this is told of them
pub record HasStood (form : Input) (left left' : Option (List ℕ)) (lf lf' : ℕ)
    (standing : Standing) : Type 0 where
  pub read : List ℕ
  pub consumed : Consumes left left' read
  pub later : lf ≤ lf'
  pub to : StandsTo form left' lf lf' read standing

-- the same, of a source before and after
abbrev pub HasStoodBy : Input → Change → Standing → Type 0
HasStoodBy form s standing = HasStood form s.before s.after s.faults_before s.faults_after standing
