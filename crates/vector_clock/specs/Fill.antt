-- The clock of an event, where its text leaves it out too.
use Rattle.std.specs.Prelude.{◌≡◌, ℕ, ◌+◌, ◌-◌, ◌<◌, ◌≤◌, ◌⊎◌, nat_le, List, [], ◌∷◌, length}
use Rattle.std.specs.Prelude.{get_or}
use Rattle.std.specs.Prelude.{Some, if◌then◌else◌}
use Rattle.run_model.specs.Cut.{Cut, count}
use Rattle.event_log.specs.declared.log.Kind.TheVariants as kind
use Rattle.event_log.specs.declared.log.Event.{Event}
use Rattle.event_log.specs.States.{with_batch, with_batches}
use Rattle.vector_clock.specs.declared.message.Message.{Message}
use Rattle.vector_clock.specs.Events.{Events, no_events, own_events}
use Rattle.vector_clock.specs.Messages.{message_received, first_send}
use Rattle.greatest_reach.specs.Back.{IsGreatest}

-- an event, by its process and its place there, counted from 1
pub record Place : Type 0 where
  pub process : ℕ
  pub position : ℕ

-- the place is one of an event
pub record IsThere (events : Events) (x : Place) : Type 0 where
  pub process : x.process < length events
  pub first : 0 < x.position
  pub last : x.position ≤ length (own_events events x.process)

abbrev pub no_event : Event
no_event = record { process = 0; line = 0; clock = []; kind = kind.Internal; assigns = [] }

-- the event at a place
abbrev pub event_at : Events → Place → Event
event_at events x = get_or (own_events events x.process) (x.position - 1) no_event

-- the text of the event leaves its clock out, or writes it
abbrev pub IsLeftOut : Events → Place → Type 0
IsLeftOut events x = IsThere events x × ((event_at events x).clock ≡ [])

abbrev pub IsWritten : Events → Place → Type 0
IsWritten events x = IsThere events x × ((event_at events x).clock ≡ [] → ⊥)

-- the event before on its process
pub record IsBefore (x y : Place) : Type 0 where
  pub process : y.process ≡ x.process
  pub position : y.position + 1 ≡ x.position
  pub there : 0 < y.position

-- the first event among these that sends the message which x receives
pub record IsSendOf (events among : Events) (x y : Place) : Type 0 where
  pub message : Message
  pub received : message_received x.process (event_at events x).kind ≡ Some message
  pub sender : y.process ≡ message.sender
  pub sent : first_send among message ≡ Some y.position

-- x is looked back from, and y is what it looks back on
pub record Links (events : Events) (among : Place → Events) (x y : Place) : Type 0 where
  pub left_out : IsLeftOut events x
  pub to : IsBefore x y ⊎ IsSendOf events (among x) x y

-- for process j the event gives its written count, or its place if its clock is left out
abbrev pub Gives : Events → ℕ → Place → ℕ → Type 0
Gives events j x n =
    (IsWritten events x × (n ≡ count (event_at events x).clock j))
    ⊎ (IsLeftOut events x × (x.process ≡ j) × (n ≡ x.position))

-- the clock of the event at this place
pub record HasClockOf (events : Events) (among : Place → Events) (x : Place) (clock : Cut) : Type 0
  where
    pub width : length clock ≡ length events
    pub counts : (j : ℕ) → j < length events
        → IsGreatest (Links events among) (Gives events j) x (count clock j)

-- ---- in a log

-- the events up to the end of the batch that has the event at this place
unfoldable pub upto_from : Events → List (List Event) → Place → Events
upto_from before [] x = before
upto_from before (batch ∷ rest) x =
    if nat_le x.position (length (own_events (with_batch before batch) x.process))
    then with_batch before batch else upto_from (with_batch before batch) rest x

abbrev pub all_events : ℕ → List (List Event) → Events
all_events procs batches = with_batches (no_events procs) batches

-- the clock of an event of a log: its written one, or the least that what it looks back on allows,
-- where a receipt looks back on the first send up to the end of its batch
abbrev pub IsClockIn : ℕ → List (List Event) → Place → Cut → Type 0
IsClockIn procs batches x clock =
    HasClockOf (all_events procs batches) (upto_from (no_events procs) batches) x clock

-- the clock of an event of a batch behind events that all have their clocks
abbrev pub IsClockBehind : Events → List Event → Place → Cut → Type 0
IsClockBehind filled batch x clock =
    HasClockOf (with_batch filled batch) (λ y. with_batch filled batch) x clock
