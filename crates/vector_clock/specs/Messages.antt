-- Messages, and the first events that send and receive them.
use Rattle.std.specs.Prelude.{ℕ, ◌+◌, Bool, false, ◌&&◌, ◌==◌, List, [], ◌∷◌, Option, None, Some}
use Rattle.std.specs.Prelude.{if◌then◌else◌}
use Rattle.std.specs.Option.{option_map}
use Rattle.event_log.specs.PassedOn.{choose}
use Rattle.event_log.specs.declared.log.Kind.{Kind}
use Rattle.event_log.specs.declared.log.Kind.TheVariants as kind
use Rattle.event_log.specs.declared.log.Event.{Event}
use Rattle.vector_clock.specs.declared.message.Message.{Message}
use Rattle.vector_clock.specs.Events.{Events, own_events}

-- the message that an event of this process sends
abbrev pub message_sent : ℕ → Kind → Option Message
message_sent process kind.Internal = None
message_sent process (kind.Send to id) = Some (record { sender = process; receiver = to; id = id })
message_sent process (kind.Receive sender id) = None

-- the message that an event of this process receives
abbrev pub message_received : ℕ → Kind → Option Message
message_received process kind.Internal = None
message_received process (kind.Send to id) = None
message_received process (kind.Receive sender id) =
    Some (record { sender = sender; receiver = process; id = id })

-- a message is known by its sender, its receiver and its number
abbrev pub is_same : Message → Message → Bool
is_same m n = (m.sender == n.sender) && ((m.receiver == n.receiver) && (m.id == n.id))

abbrev pub sends : Message → Event → Bool
sends m e = choose (message_sent e.process e.kind) (λ n. is_same n m) false

abbrev pub receives : Message → Event → Bool
receives m e = choose (message_received e.process e.kind) (λ n. is_same n m) false

-- the place of the first event that passes the test, counted from 1
unfoldable pub first_place : (Event → Bool) → List Event → Option ℕ
first_place test [] = None
first_place test (e ∷ es) = if test e then Some 1 else option_map (λ k. k + 1) (first_place test es)

-- the place of the first event that sends the message, among those of its sender: no other process
-- sends it
abbrev pub first_send : Events → Message → Option ℕ
first_send events m = first_place (sends m) (own_events events m.sender)

-- the place of the first event that receives the message, among those of its receiver
abbrev pub first_receipt : Events → Message → Option ℕ
first_receipt events m = first_place (receives m) (own_events events m.receiver)
