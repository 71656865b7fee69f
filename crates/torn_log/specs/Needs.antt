-- What an event stands on: what its clock counts, or where its clock is left out the send of the
-- message that it receives.
use Rattle.std.specs.Prelude.{ℕ, suc, [], length, map, replicate, set, if◌then◌else◌}
use Rattle.std.specs.Option.{unwrap_or}
use Rattle.log_lines.specs.Reading.{choose}
use Rattle.run_model.specs.Cut.{Cut, Clocks}
use Rattle.event_log.specs.declared.log.Event.{Event}
use Rattle.vector_clock.specs.declared.message.Message.{Message}
use Rattle.vector_clock.specs.Events.{Events, own_events}
use Rattle.vector_clock.specs.Messages.{message_received, first_send}
use Rattle.vector_clock.specs.Filled.{is_left_out}

-- so many first events of one process alone
abbrev pub only : ℕ → ℕ → ℕ → Cut
only procs process count = set (replicate procs 0) process count

-- the place of the first event that sends the message, and where no event does one that is not
-- there
abbrev pub sent_at : Events → Message → ℕ
sent_at events m =
    unwrap_or (first_send events m) (suc (length (own_events events m.sender)))

abbrev pub need_of_receipt : Events → Message → Cut
need_of_receipt events m = only (length events) m.sender (sent_at events m)

-- the events that must be there beside those of its process before it
abbrev pub need : Events → Event → Cut
need events e =
    if is_left_out e then choose (message_received e.process e.kind) (need_of_receipt events) []
    else e.clock

-- of each process's events in their order
abbrev pub needs : Events → Clocks
needs events = map (map (need events)) events
