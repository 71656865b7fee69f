-- What bytes are while they are judged.
use Rattle.std.specs.Prelude.{◌≡◌, ◌≢◌, ℕ, Bool, true, false, List, [], None, Some}
use Rattle.event_log.specs.declared.item.LogFault.{LogFault}
use Rattle.event_log.specs.declared.log.Log.{Log}
use Rattle.event_log.specs.declared.reader.Reader.{Reader}
use Rattle.event_log.specs.Faults.{fault_of, items_in}
use Rattle.event_log.specs.LogText.{onto, log_items}
use Rattle.event_log.specs.Reader.{HasRead}
use Rattle.fault_kinds.specs.declared.refusal.Refusal.TheVariants as refusal
use Rattle.filled_log.specs.declared.filling.FilledLog.{FilledLog}
use Rattle.filled_log.specs.Filling.{Keeps}
use Rattle.input_reading.specs.declared.reading.End.{End}
use Rattle.input_reading.specs.declared.reading.End.TheVariants as end
use Rattle.log_merge.specs.Merging.{merged}
use Rattle.log_rules.specs.Due.{whole_of}
use Rattle.log_rules.specs.Judgement.{judged, waiting}
use Rattle.log_rules.specs.WholeLogs.{all_of}
use Rattle.log_trace.specs.Judging.{IsRefused, without_formula}
use Rattle.log_input.specs.declared.form.Form.{Form}
use Rattle.log_input.specs.declared.form.Form.TheVariants as form
use Rattle.log_input.specs.declared.places.Places.{Places}
use Rattle.log_input.specs.declared.places.Places.TheVariants.{Origins}
use Rattle.log_input.specs.declared.judged.Judged.{Judged}
use Rattle.log_input.specs.declared.judged.Judged.TheVariants.{Whole, Faulty, Failed}
use Rattle.log_input.specs.declared.reading.Input.{Input}
use Rattle.log_input.specs.declared.reading.Input.TheVariants as input
use Rattle.log_input.specs.FaultyLine.{shown_line}
use Rattle.log_input.specs.Inputs.{IsFaultless, IsFilled, ArePlacesOf}
use Rattle.log_input.specs.Places.{place_by}
use Rattle.log_input.specs.Readings.{log_due}

-- a log of one batch was judged without a formula
abbrev pub IsJudged : Log → Places → Judged → Type 0
IsJudged log places (Whole l q) =
    (whole_of (judged without_formula waiting (log_items log)) ≡ Some (all_of l)) × IsFaultless l
    × (q ≡ places)
IsJudged log places (Faulty r) = (f : LogFault)
    × IsRefused (judged without_formula waiting (log_items log)) f × (r ≡ place_by places f)
IsJudged log places Failed = ⊥

-- the log that these are was judged so
abbrev pub IsMergedOf : List Log → Judged → Type 0
IsMergedOf logs j = IsJudged (merged logs).log (Origins (merged logs).origins) j

-- the text of one log was taken without a fault so far
pub record HasTaken (reader : Reader) (filled : FilledLog) (text : List ℕ) : Type 0 where
  pub read : HasRead reader (onto text [])
  pub free : fault_of text ≡ None
  pub keeps : Keeps filled (judged without_formula waiting (items_in text))

-- it has this fault, whatever follows
abbrev pub HasTextFault : List ℕ → LogFault → Type 0
HasTextFault text f = (log_due form.OneLog false text).fault ≡ Some (refusal.Log f)

-- the text of one log was judged, behind which no more was read for this reason
abbrev pub IsTextJudged : List ℕ → End → Judged → Type 0
IsTextJudged text e (Whole l places) =
    (e ≢ end.Failed) × IsFilled form.OneLog text l × ArePlacesOf form.OneLog text places
IsTextJudged text e (Faulty r) = (ended : Bool) × (ended ≡ true → e ≢ end.Failed)
    × ((log_due form.OneLog ended text).fault ≡ Some r)
IsTextJudged text e Failed =
    (e ≡ end.Failed) × ((log_due form.OneLog false text).fault ≡ None)

-- what the bytes are where the input has ended with them
abbrev pub StandsAt : Form → List ℕ → Judged → Type 0
StandsAt form bytes (Whole log places) = IsFilled form bytes log × ArePlacesOf form bytes places
StandsAt form bytes (Faulty r) = (log_due form true bytes).fault ≡ Some r
StandsAt form bytes Failed = ⊥

-- records of two lines were judged, behind which no more was read for this reason
abbrev pub AreRecordsJudged : List ℕ → End → Judged → Type 0
AreRecordsJudged text end.Ended j = StandsAt form.Clocks text j
AreRecordsJudged text end.Done j = StandsAt form.Clocks text j
AreRecordsJudged text end.Failed j = j ≡ Failed

-- it is told with the line of its fault, which is one of these bytes
abbrev pub told : Judged → (bytes : List ℕ) → Input
told (Whole log places) bytes = input.Whole log places
told (Faulty r) bytes = input.Faulty r (shown_line r bytes)
told Failed bytes = input.Failed
