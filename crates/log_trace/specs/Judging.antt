-- The trace of a log as its items come: what is kept of it, and which items may come.
use Rattle.std.specs.Prelude.{◌≡◌, ℕ, ◌+◌, ◌≤◌, true, false, List, [], length, None, Some}
use Rattle.std.specs.Prelude.{Option}
use Rattle.std.specs.List.{AllByRecursion}
use Rattle.pota_base.specs.Limits.{most_events}
use Rattle.event_log.specs.declared.item.Item.{Item}
use Rattle.event_log.specs.declared.item.LogFault.{LogFault}
use Rattle.event_log.specs.declared.log.Event.{Event}
use Rattle.event_log.specs.FittingItems.{FitFrom, FitFirst}
use Rattle.event_log.specs.LogText.{HeaderFits, EventFits, event_count}
use Rattle.trace_growth.specs.Growing.{TraceView}
use Rattle.fault_kinds.specs.declared.refusal.Refusal.TheVariants as refusal
use Rattle.log_rules.specs.Judgement.{Prefix, followed_by, states_of, Rules, with_rules}
use Rattle.log_rules.specs.Judgement.{Judgement, waiting, growing, finished, refused}
use Rattle.log_trace.specs.declared.trace.LogTrace.{LogTrace}

-- no name is looked up in a log, and none of its variables is a counter
abbrev pub without_formula : Rules
without_formula = with_rules (λ h. None) (λ h. [])

-- ---- what is judged

-- items of a log that may come behind a judgement
abbrev pub MayFollow : Judgement → List Item → Type 0
MayFollow waiting items = FitFirst items
MayFollow (growing log since) items =
    FitFrom log.header (event_count log.batches + length since) items
MayFollow (finished log last) items = (n : ℕ) × FitFrom log.header n items
MayFollow (refused log why) items = Unit {0}

-- this fault of the log is judged
abbrev pub IsRefused : Judgement → LogFault → Type 0
IsRefused j f = (log : Option Prefix) × (j ≡ refused log (refusal.Log f))

-- ---- what is kept

-- the trace has the states of the log after these batches
pub record HasTrace (kept : LogTrace) (log : Prefix) : Type 0 where
  pub fits : HeaderFits log.header
  pub trace : TraceView
  pub is : kept.trace ≡ Some trace
  pub states : trace.states ≡ states_of log
  pub here : trace.spent ≡ false

-- these events came since
pub record HasSince (kept : LogTrace) (log : Prefix) (since : List Event) : Type 0 where
  pub since_is : kept.since ≡ since
  pub open_ : kept.ended ≡ false
  pub each : AllByRecursion (EventFits log.header) since
  pub few : event_count log.batches + length since ≤ most_events

-- no item came yet
pub record IsNew (kept : LogTrace) : Type 0 where
  pub none : kept.trace ≡ None
  pub since : kept.since ≡ []
  pub open_ : kept.ended ≡ false

-- the items so far are judged so, without a fault
abbrev pub Keeps : LogTrace → Judgement → Type 0
Keeps kept waiting = IsNew kept
Keeps kept (growing log since) = HasTrace kept log × HasSince kept log since
Keeps kept (finished log last) =
    HasTrace kept (followed_by log last) × (kept.ended ≡ true)
Keeps kept (refused log why) = ⊥
