-- Counters that fall: the first event of a batch that leaves one lower than it was.
use Rattle.std.specs.Prelude.{ℤ, Bool, int_lt, List, [], ◌∷◌, length, map}
use Rattle.std.specs.Prelude.{Option, None, Some, if◌then◌else◌}
use Rattle.std.specs.List.{list_any}
use Rattle.event_log.specs.declared.item.LogCode.TheVariants as code
use Rattle.event_log.specs.declared.item.LogFault.{LogFault}
use Rattle.event_log.specs.declared.log.Event.{Event}
use Rattle.event_log.specs.States.{StatesView, with_event, with_batch}
use Rattle.channel_preds.specs.Channels.{events_at}
use Rattle.counter_preds.specs.declared.values.Variable.{Variable}
use Rattle.counter_preds.specs.Counters.{value_in}

-- the value of a variable once all events so far have happened
abbrev pub value_now : StatesView → Variable → ℤ
value_now states x = value_in states x (length (events_at states x.process))

-- the states with one event more
abbrev pub behind_event : StatesView → Event → StatesView
behind_event states e = record { header = states.header; events = with_event states.events e }

-- the states with all events of a batch more
abbrev pub behind_batch : StatesView → List Event → StatesView
behind_batch states batch =
    record { header = states.header; events = with_batch states.events batch }

-- the event leaves the variable lower than the event before on its process, or the header, left it
abbrev pub is_lowered : StatesView → Event → Variable → Bool
is_lowered states e x = int_lt (value_now (behind_event states e) x) (value_now states x)

-- at the line of its event
abbrev pub fall_of : Event → LogFault
fall_of e = record { code = code.CounterFalls; line = e.line }

-- the fault of the first event of a batch that leaves one of these counters lower than it was
unfoldable pub fall_fault : StatesView → List Variable → List Event → Option LogFault
fall_fault states counters [] = None
fall_fault states counters (e ∷ rest) =
    if list_any (is_lowered states e) counters then Some (fall_of e)
    else fall_fault (behind_event states e) counters rest

-- ---- by assignments

-- ---- clocks make no difference

-- the event with its clock left out
abbrev pub without_clock : Event → Event
without_clock e = record e { clock = [] }

-- all events of a batch so
abbrev pub without_clocks : List Event → List Event
without_clocks batch = map without_clock batch
