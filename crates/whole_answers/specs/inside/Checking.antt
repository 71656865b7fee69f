-- The check of an input once it was read.
use Rattle.std.specs.Prelude.{◌≡◌, ◌≤◌, [], length, Result, Ok, Err}
use Rattle.std.specs.Io.KnownBytes.{Appends}
use Rattle.pota_base.specs.declared.fault.NoMemory.{NoMemory}
use Rattle.pota_base.specs.Changes.{Change}
use Rattle.event_log.specs.declared.log.Log.{Log}
use Rattle.event_log.specs.FittingItems.{FitFirst}
use Rattle.event_log.specs.LogText.{log_items}
use Rattle.log_answers.specs.PassedOn.{Aim}
use Rattle.log_answers.specs.declared.stop.StopCause.{StopCause}
use Rattle.log_answers.specs.declared.stop.StopCause.TheVariants as causes
use Rattle.log_answers.specs.declared.stop.Stop.{Stop}
use Rattle.log_answers.specs.declared.stop.Verdict.{Verdict}
use Rattle.log_answers.specs.Whole.{HasWhole}
use Rattle.whole_answers.specs.declared.places.Places.{Places}
use Rattle.whole_answers.specs.declared.standing.Standing.{Standing}
use Rattle.whole_answers.specs.declared.standing.Standing.TheVariants.{Whole, Faulty, Failed}
use Rattle.whole_answers.specs.inside.Places.{place_by, placed_result}

-- a log that may be checked: one batch of events that fit
pub record MayBeChecked (log : Log) : Type 0 where
  pub batch : length log.batches ≡ 1
  pub fits : FitFirst (log_items log)

abbrev pub CanBeChecked : Result Standing NoMemory → Type 0
CanBeChecked (Ok (Whole log places)) = MayBeChecked log
CanBeChecked (Ok (Faulty r)) = Unit {0}
CanBeChecked (Ok Failed) = Unit {0}
CanBeChecked (Err short) = Unit {0}

-- the log was checked, and its fault is told at its place
pub record HasPlaced (sink : Change) (aim : Aim) (log : Log) (places : Places)
    (result : Result Verdict Stop) : Type 0 where
  pub ended : Result Verdict Stop
  pub checked : HasWhole sink aim log ended
  pub told : result ≡ placed_result (place_by places) ended

-- nothing was written, and this is why
pub record HasStopped (sink : Change) (cause : StopCause) (result : Result Verdict Stop) : Type 0
  where
    pub nothing : Appends sink.before sink.after []
    pub later : sink.faults_before ≤ sink.faults_after
    pub told : result ≡ Err (record { batches = 0; cause = cause })

abbrev pub ChecksStanding : Change → Aim → Result Standing NoMemory → Result Verdict Stop → Type 0
ChecksStanding sink aim (Ok (Whole log places)) result = HasPlaced sink aim log places result
ChecksStanding sink aim (Ok (Faulty r)) result = HasStopped sink (causes.Refused r) result
ChecksStanding sink aim (Ok Failed) result = HasStopped sink causes.Read result
ChecksStanding sink aim (Err short) result = HasStopped sink causes.Memory result
