-- Laws on batches and clocks, as statements.
use Rattle.std.specs.Prelude.{◌≡◌, ℕ, List, [], ◌∷◌, ◌++◌, None}
use Rattle.std.specs.List.{AllByRecursion}
use Rattle.run_model.specs.Cut.{Cut}
use Rattle.event_log.specs.declared.log.Event.{Event}
use Rattle.event_log.specs.States.{with_batch}
use Rattle.vector_clock.specs.Events.{Events, EventStands, AllStand, no_events}
use Rattle.vector_clock.specs.Faults.{batch_fault, batches_fault}
use Rattle.vector_clock.specs.Faultless.{AreFaultless}
use Rattle.vector_clock.specs.Fill.{Place, IsThere, all_events, IsClockIn, IsClockBehind}
use Rattle.vector_clock.specs.Filled.{filled_batch, filled_batches}
use Rattle.clock_laws.specs.Clocked.{HaveTheirClocks}
use Rattle.clock_laws.specs.Joined.{as_one, MayComeAsOne}

-- ---- filling

-- the clock of an event in a log is its clock still when one batch more comes
abbrev pub EarlierClocksStay : Type 0
EarlierClocksStay =
    (procs : ℕ) (batches : List (List Event)) (batch : List Event) (x : Place) (clock : Cut)
    → IsThere (all_events procs batches) x → IsClockIn procs batches x clock
    → IsClockIn procs (batches ++ batch ∷ []) x clock

-- where all events before a batch have their clocks, a clock behind these is the clock in the log
abbrev pub ClocksBehindAreClocksIn : Type 0
ClocksBehindAreClocksIn =
    (procs : ℕ) (batches : List (List Event)) (filled : Events) (batch : List Event) (x : Place)
    (clock : Cut) → HaveTheirClocks procs batches filled → IsClockBehind filled batch x clock
    → IsClockIn procs (batches ++ batch ∷ []) x clock

-- and with the filled batch behind them all events have their clocks again
abbrev pub OneBatchMore : Type 0
OneBatchMore =
    (procs : ℕ) (batches : List (List Event)) (filled : Events) (batch : List Event)
    → AllByRecursion (EventStands procs) batch → HaveTheirClocks procs batches filled
    → HaveTheirClocks procs (batches ++ batch ∷ [])
    (with_batch filled (filled_batch filled batch))

-- so batches that are filled one behind the other have the clocks of the whole log
abbrev pub FilledBatchesHaveTheirClocks : Type 0
FilledBatchesHaveTheirClocks =
    (procs : ℕ) (batches : List (List Event)) → AllStand procs batches
    → HaveTheirClocks procs batches
    (all_events procs (filled_batches (no_events procs) batches))

-- ---- batches as one

-- where no batch has a fault behind those before it, they have none as one batch
abbrev pub JoinedBatchesHaveNoFault : Type 0
JoinedBatchesHaveNoFault =
    (before : Events) (batches : List (List Event)) → batches_fault before batches ≡ None
    → batch_fault before (as_one batches) ≡ None

-- so events that came batch after batch without a fault may come as one
abbrev pub FaultlessEventsMayComeAsOne : Type 0
FaultlessEventsMayComeAsOne =
    (procs : ℕ) (events : Events) → AreFaultless procs events → MayComeAsOne procs events

-- the batches have no fault once their clocks are filled in, one behind the other
abbrev pub AreFaultlessOnceFilled : ℕ → List (List Event) → Type 0
AreFaultlessOnceFilled procs batches =
    batches_fault (no_events procs) (filled_batches (no_events procs) batches) ≡ None

-- such batches are filled as one batch to the same events
abbrev pub JoinedBatchesFillTheSame : Type 0
JoinedBatchesFillTheSame =
    (procs : ℕ) (batches : List (List Event)) → AllStand procs batches
    → AreFaultlessOnceFilled procs batches
    → filled_batch (no_events procs) (as_one batches)
    ≡ as_one (filled_batches (no_events procs) batches)

-- so whoever takes all of them as one batch finds no fault
abbrev pub FilledAsOneTheyHaveNoFault : Type 0
FilledAsOneTheyHaveNoFault =
    (procs : ℕ) (batches : List (List Event)) → AllStand procs batches
    → AreFaultlessOnceFilled procs batches
    → batch_fault (no_events procs) (filled_batch (no_events procs) (as_one batches)) ≡ None

-- and has the events that came batch after batch
abbrev pub FilledAsOneTheyAreTheSameEvents : Type 0
FilledAsOneTheyAreTheSameEvents =
    (procs : ℕ) (batches : List (List Event)) → AllStand procs batches
    → AreFaultlessOnceFilled procs batches
    → with_batch (no_events procs) (filled_batch (no_events procs) (as_one batches))
    ≡ all_events procs (filled_batches (no_events procs) batches)
