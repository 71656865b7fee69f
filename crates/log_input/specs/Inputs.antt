-- What an input is once it was read.
use Rattle.std.specs.Prelude.{◌≡◌, ℕ, ◌≤◌, Bool, true, false, List, length, None, Some}
use Rattle.std.specs.Io.KnownBytes.{Consumes, IsAtEnd}
use Rattle.pota_base.specs.Limits.{most_events}
use Rattle.pota_base.specs.Outside.{Rose}
use Rattle.event_log.specs.declared.item.LogFault.{LogFault}
use Rattle.event_log.specs.declared.log.Log.{Log}
use Rattle.event_log.specs.LogText.{event_count}
use Rattle.pota_base.specs.Changes.{Change}
use Rattle.log_rules.specs.WholeLogs.{all_of}
use Rattle.log_writing.specs.Spelling.{HasText}
use Rattle.vector_clock.specs.Events.{AllFit}
use Rattle.vector_clock.specs.Faults.{log_fault}
use Rattle.log_input.specs.declared.form.Form.{Form}
use Rattle.log_input.specs.declared.places.Places.{Places}
use Rattle.log_input.specs.declared.reading.Input.{Input}
use Rattle.log_input.specs.declared.reading.Input.TheVariants.{Whole, Faulty, Failed}
use Rattle.log_input.specs.FaultyLine.{faulty_line}
use Rattle.log_input.specs.Places.{place_by}
use Rattle.log_input.specs.Readings.{reading_of, log_due, HasLog}

-- a log that has a text, with each clock written and no fault of its clocks and messages
pub record IsFaultless (log : Log) : Type 0 where
  pub text : HasText log
  pub clocks : AllFit (length log.header.procs) log.batches
  pub faultless : log_fault log ≡ None
  pub events : event_count log.batches ≤ most_events

-- the log of the bytes, all its clocks filled in
pub record IsFilled (form : Form) (bytes : List ℕ) (log : Log) : Type 0 where
  pub has : HasLog form bytes (all_of log)
  pub log_is : IsFaultless log

-- a fault at a line of the log of the bytes is told at its place
abbrev pub ArePlacesOf : Form → (bytes : List ℕ) → Places → Type 0
ArePlacesOf form bytes places =
    (f : LogFault) → place_by places f ≡ (reading_of form).place true bytes f

-- What is told of the bytes that a source had. Only behind a fault of them the count of faults may
-- have risen without a word.
abbrev pub StandsTo : Form → Change → List ℕ → Input → Type 0
StandsTo form s bytes (Whole log places) =
    IsAtEnd s.after × (s.faults_after ≡ s.faults_before) × IsFilled form bytes log
    × ArePlacesOf form bytes places
StandsTo form s bytes (Faulty r line) =
    ((ended : Bool) × (ended ≡ true → IsAtEnd s.after)
    × ((log_due form ended bytes).fault ≡ Some r)) × (line ≡ faulty_line form r bytes)
StandsTo form s bytes Failed =
    ((log_due form false bytes).fault ≡ None) × Rose s.faults_before s.faults_after

-- some bytes were read, and this is told of them
pub record HasStood (form : Form) (s : Change) (input : Input) : Type 0 where
  pub read : List ℕ
  pub consumed : Consumes s.before s.after read
  pub to : StandsTo form s read input
