-- Batches whose clocks are filled in.
use Rattle.std.specs.Prelude.{ℕ, zero, suc, ◌+◌, ◌==◌, Bool, false, ◌&&◌, ◌||◌}
use Rattle.std.specs.Prelude.{nat_lt, nat_le, List, [], ◌∷◌, ◌++◌, length, if◌then◌else◌}
use Rattle.event_log.specs.PassedOn.{choose}
use Rattle.run_model.specs.Cut.{Cut, count}
use Rattle.event_log.specs.declared.log.Event.{Event}
use Rattle.event_log.specs.declared.log.Log.{Log}
use Rattle.event_log.specs.States.{with_event, with_batch}
use Rattle.vector_clock.specs.Events.{Events, no_events, own_events, place}
use Rattle.vector_clock.specs.Messages.{message_received, first_send}
use Rattle.greatest_reach.specs.Back.{greatest_given}
use Rattle.vector_clock.specs.Fill.{Place, event_at}

-- ---- the links and gifts of the definition, as tests

abbrev pub is_left_out : Event → Bool
is_left_out e = length e.clock == 0

abbrev pub is_there : Events → Place → Bool
is_there events x =
    nat_lt x.process (length events)
    && (nat_lt 0 x.position && nat_le x.position (length (own_events events x.process)))

abbrev pub is_before : Place → Place → Bool
is_before x y =
    (y.process == x.process) && ((y.position + 1 == x.position) && nat_lt 0 y.position)

abbrev pub is_send_of : Events → Place → Place → Bool
is_send_of events x y =
    choose (message_received x.process (event_at events x).kind)
    (λ m. (y.process == m.sender)
    && choose (first_send events m) (λ a. a == y.position) false) false

abbrev pub links : Events → Place → Place → Bool
links events x y =
    (is_there events x && is_left_out (event_at events x))
    && (is_before x y || is_send_of events x y)

abbrev pub given : Events → ℕ → Place → ℕ
given events j x =
    if is_there events x then (if is_left_out (event_at events x)
    then (if x.process == j then x.position else 0) else count (event_at events x).clock j)
    else 0

-- ---- all places, and one clock

-- the places of a process from a position on
unfoldable pub places_on : ℕ → ℕ → ℕ → List Place
places_on p from zero = []
places_on p from (suc n) =
    record { process = p; position = from } ∷ places_on p (from + 1) n

-- the places of the processes from one on
unfoldable pub places_from : ℕ → Events → List Place
places_from p [] = []
places_from p (es ∷ events) = places_on p 1 (length es) ++ places_from (p + 1) events

unfoldable pub counts_from : (ℕ → ℕ) → ℕ → ℕ → Cut
counts_from f from zero = []
counts_from f from (suc n) = f from ∷ counts_from f (from + 1) n

-- the clock of an event that has its place among these, all batches up to its own
abbrev pub clock_of : Events → Place → Cut
clock_of events x =
    counts_from (λ j. greatest_given (links events) (given events j) (places_from 0 events) x) 0
    (length events)

-- ---- batches

-- a written clock stays
abbrev pub filled_event : Events → Events → Event → Event
filled_event all before e =
    if is_left_out e
    then record e {
      clock = clock_of all (record { process = e.process; position = place before e });
    }
    else e

-- each of these events, which stand behind those before
unfoldable pub fill_from : Events → Events → List Event → List Event
fill_from all before [] = []
fill_from all before (e ∷ es) =
    filled_event all before e ∷ fill_from all (with_event before (filled_event all before e)) es

-- a batch with its clocks, behind events that have theirs
abbrev pub filled_batch : Events → List Event → List Event
filled_batch before batch = fill_from (with_batch before batch) before batch

-- batches with their clocks, one behind the other
unfoldable pub filled_batches : Events → List (List Event) → List (List Event)
filled_batches before [] = []
filled_batches before (batch ∷ rest) =
    filled_batch before batch
    ∷ filled_batches (with_batch before (filled_batch before batch)) rest

abbrev pub filled_log : Log → Log
filled_log log =
    record log { batches = filled_batches (no_events (length log.header.procs)) log.batches }
