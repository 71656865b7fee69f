-- What is observed of a whole log.
use Rattle.std.specs.Prelude.{◌≡◌, ◌≤◌, false, List, length, Some}
use Rattle.event_log.specs.States.{opened}
use Rattle.event_log.specs.declared.item.LogFault.{LogFault}
use Rattle.event_log.specs.declared.log.Event.{Event}
use Rattle.event_log.specs.declared.log.Header.{Header}
use Rattle.log_input.specs.Inputs.{IsFaultless}
use Rattle.log_intake.specs.Taking.{trace_after}
use Rattle.log_rules.specs.WholeLogs.{first_fall}
use Rattle.observation.specs.Fed.{AreFedFrom}
use Rattle.observation.specs.Growing.{GrowingView}
use Rattle.observation.specs.declared.observation.Observation.{Observation}
use Rattle.part_pulls.specs.Counters.{counters_of}
use Rattle.pota_base.specs.declared.fault.Refused.{Refused}
use Rattle.pota_base.specs.declared.fault.Refused.TheVariants as refused
use Rattle.rctl_parts.specs.Pieces.{disjuncts_of}
use Rattle.trace_growth.specs.Growing.{opened_trace}
use Rattle.watch.specs.Saying.{Says}
use Rattle.watch.specs.declared.predicate.Handed.{Handed}

-- a log of one process or more, with each clock written and no fault of its clocks and messages
pub record CanTake (header : Header) (batches : List (List Event)) : Type 0 where
  pub log_is : IsFaultless (record { header = header; batches = batches })
  pub procs : 1 ≤ length header.procs

-- its header was observed and none of its batches
abbrev pub IsOpened : GrowingView → Type 0
IsOpened growing =
    (growing.seen.trace ≡ opened_trace growing.seen.trace.states.header) × (growing.spent ≡ false)

-- these batches were observed, and the watches were fed on
pub record IsObservedLog {X : Type 0} {P : X → Type 0} (says : Says X P)
    (batches : List (List Event)) (before after : Observation X P) : Type 0 where
  pub unspent : after.growing.spent ≡ false
  pub trace : after.growing.seen.trace ≡ trace_after
      (record { header = before.growing.seen.trace.states.header; batches = batches })
  pub disjuncts : after.growing.disjuncts ≡ before.growing.disjuncts
  pub fed : (handed : List (Handed X P))
      → AreFedFrom says handed before.watches.items before.growing.seen
      → AreFedFrom says handed after.watches.items after.growing.seen

-- this is the fault of the first event that leaves a counter of what is asked lower than it was
abbrev pub FallsIn : List (List Event) → GrowingView → LogFault → Type 0
FallsIn batches growing fault =
    first_fall (opened growing.seen.trace.states.header)
    (counters_of (disjuncts_of growing.disjuncts)) batches ≡ Some fault

-- a fault is such; nothing is said where memory runs out
abbrev pub Refuses : Refused LogFault → (LogFault → Type 0) → Type 0
Refuses (refused.Fault f) Is = Is f
Refuses refused.NoMemory Is = Unit {0}
