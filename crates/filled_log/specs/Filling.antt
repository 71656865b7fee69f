-- What is kept of a log as its items come.
use Rattle.std.specs.Prelude.{◌≡◌, ℕ, ◌+◌, ◌≤◌, true, false, List, [], length, None, Some}
use Rattle.std.specs.List.{AllByRecursion}
use Rattle.pota_base.specs.Limits.{most_events}
use Rattle.event_log.specs.declared.log.Event.{Event}
use Rattle.event_log.specs.LogText.{HeaderFits, EventFits, event_count}
use Rattle.vector_clock.specs.Admitted.{HasAdmitted}
use Rattle.vector_clock.specs.Events.{AllFit, no_events}
use Rattle.vector_clock.specs.Faults.{batches_fault}
use Rattle.log_rules.specs.Judgement.{Prefix, followed_by, events_of}
use Rattle.log_rules.specs.Judgement.{Judgement, waiting, growing, finished, refused}
use Rattle.log_rules.specs.WholeLogs.{all_of}
use Rattle.log_writing.specs.Spelling.{BatchesCanBeSpelled}
use Rattle.filled_log.specs.declared.filling.Begun.{Begun}
use Rattle.filled_log.specs.declared.filling.FilledLog.{FilledLog}

-- in these batches of so many processes each clock is written, and none has a fault of its clocks
-- and messages; and they have no more events than a log may have
pub record AreFaultless (procs : ℕ) (batches : List (List Event)) : Type 0 where
  pub clocks : AllFit procs batches
  pub faultless : batches_fault (no_events procs) batches ≡ None
  pub events : event_count batches ≤ most_events

-- it is the log after these batches, which have no fault and whose lines can be spelled
pub record HasLog (begun : Begun) (log : Prefix) : Type 0 where
  pub fits : HeaderFits log.header
  pub log_is : all_of begun.log ≡ log
  pub admitted : HasAdmitted begun.clocks (events_of log)
  pub spelled : BatchesCanBeSpelled log.header log.batches
  pub faultless : AreFaultless (length log.header.procs) log.batches

-- the header came, and these batches
pub record HasBegun (kept : FilledLog) (log : Prefix) : Type 0 where
  pub begun : Begun
  pub is : kept.begun ≡ Some begun
  pub has : HasLog begun log

-- these events came since
pub record HasSince (kept : FilledLog) (log : Prefix) (since : List Event) : Type 0 where
  pub since_is : kept.since ≡ since
  pub open_ : kept.ended ≡ false
  pub each : AllByRecursion (EventFits log.header) since
  pub few : event_count log.batches + length since ≤ most_events

-- no item came yet
pub record IsNew (kept : FilledLog) : Type 0 where
  pub none : kept.begun ≡ None
  pub since : kept.since ≡ []
  pub open_ : kept.ended ≡ false

-- the items so far are judged so, without a fault
abbrev pub Keeps : FilledLog → Judgement → Type 0
Keeps kept waiting = IsNew kept
Keeps kept (growing log since) = HasBegun kept log × HasSince kept log since
Keeps kept (finished log last) =
    HasBegun kept (followed_by log last) × (kept.ended ≡ true)
Keeps kept (refused log why) = ⊥
