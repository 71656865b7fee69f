-- Of the calls inside, which no caller rests on.
use Rattle.std.specs.Prelude.{◌+◌, ◌≤◌, List, [], length}
use Rattle.std.specs.List.{AllByRecursion}
use Rattle.pota_base.specs.Limits.{most_events}
use Rattle.event_log.specs.declared.log.Event.{Event}
use Rattle.event_log.specs.declared.log.Header.{Header}
use Rattle.event_log.specs.LogText.{EventFits, event_count}
use Rattle.log_rules.specs.Judgement.{Prefix}
use Rattle.filled_log.specs.declared.filling.Begun.{Begun}
use Rattle.filled_log.specs.Filling.{HasLog}

-- it is the log of this header without a batch
abbrev pub IsBegunBy : Header → Begun → Type 0
IsBegunBy h begun = HasLog begun (record { header = h; batches = [] })

-- a batch of events that fit may come behind these batches
pub record MayComeBehind (log : Prefix) (batch : List Event) : Type 0 where
  pub each : AllByRecursion (EventFits log.header) batch
  pub few : event_count log.batches + length batch ≤ most_events
