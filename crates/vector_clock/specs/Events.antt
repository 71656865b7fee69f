-- The events of a log by process, and their vector clocks.
use Rattle.std.specs.Prelude.{ℕ, zero, suc, ◌≡◌, ◌+◌, ◌<◌, ◌≤◌, ◌⊎◌, Bool, false, ◌||◌, nat_lt}
use Rattle.std.specs.Prelude.{List, []}
use Rattle.std.specs.Prelude.{length, map, get_or, replicate}
use Rattle.std.specs.List.{AllByRecursion}
use Rattle.run_model.specs.Cut.{Cut, Clocks, count}
use Rattle.pota_base.specs.Limits.{most_events, most_processes}
use Rattle.event_log.specs.declared.log.Event.{Event}
use Rattle.event_log.specs.declared.log.Log.{Log}
use Rattle.event_log.specs.LogText.{KindWithin, event_count}
use Rattle.causal_order.specs.Growth.{HasClock}

-- the events of each process in their order
abbrev pub Events : Type 0
Events = List (List Event)

-- so many processes without events
abbrev pub no_events : ℕ → Events
no_events procs = replicate procs []

abbrev pub own_events : Events → ℕ → List Event
own_events events p = get_or events p []

abbrev pub clocks_of : Events → Clocks
clocks_of events = map (map (λ (e : Event). e.clock)) events

-- the place of an event behind these events of its process, counted from 1
abbrev pub place : Events → Event → ℕ
place before e = length (own_events before e.process) + 1

-- some number below n passes the test
unfoldable pub some_below : ℕ → (ℕ → Bool) → Bool
some_below zero test = false
some_below (suc n) test = some_below n test || test n

-- some count of the first clock is greater than that of the second
abbrev pub is_beyond : Cut → Cut → Bool
is_beyond c v = some_below (length c) (λ j. nat_lt (count v j) (count c j))

-- the event has its place in a log of so many processes: its process and its peer are there, and
-- its clock has one count for each
pub record EventFits (procs : ℕ) (e : Event) : Type 0 where
  pub clock : HasClock procs e
  pub peer : KindWithin procs e.kind

-- the batch fits so many processes that have so many events
pub record BatchFits (procs events : ℕ) (batch : List Event) : Type 0 where
  pub each : AllByRecursion (EventFits procs) batch
  pub few : events + length batch ≤ most_events

-- batches of which each event has its place
abbrev pub AllFit : ℕ → List (List Event) → Type 0
AllFit procs batches =
    AllByRecursion (λ (batch : List Event). AllByRecursion (EventFits procs) batch) batches

-- ---- where clocks may be left out

-- the event has its place in a log of so many processes, and its clock is left out or has one count
-- for each
pub record EventStands (procs : ℕ) (e : Event) : Type 0 where
  pub process : e.process < procs
  pub width : (length e.clock ≡ procs) ⊎ (e.clock ≡ [])
  pub peer : KindWithin procs e.kind

pub record BatchStands (procs events : ℕ) (batch : List Event) : Type 0 where
  pub each : AllByRecursion (EventStands procs) batch
  pub few : events + length batch ≤ most_events

-- batches of which each event has its place
abbrev pub AllStand : ℕ → List (List Event) → Type 0
AllStand procs batches =
    AllByRecursion (λ (batch : List Event). AllByRecursion (EventStands procs) batch) batches

-- a log of 1 to 32 processes and at most 50,000 events, each of which has its place, its clock left
-- out or not
pub record CanBeChecked (log : Log) : Type 0 where
  pub some : 1 ≤ length log.header.procs
  pub few : length log.header.procs ≤ most_processes
  pub each : AllStand (length log.header.procs) log.batches
  pub events : event_count log.batches ≤ most_events
