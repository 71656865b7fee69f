-- Batches of which one receives what only the next one sends.
use Rattle.std.specs.Prelude.{List, [], ◌∷◌}
use Rattle.event_log.specs.declared.log.Event.{Event}
use Rattle.event_log.specs.declared.log.Kind.TheVariants as kind

-- process 1 receives message 1 of process 0
abbrev pub receipt : Event
receipt =
    record { process = 1; line = 3; clock = []; kind = kind.Receive 0 1; assigns = [] }

abbrev pub send : Event
send = record { process = 0; line = 5; clock = []; kind = kind.Send 1 1; assigns = [] }

-- the send comes a batch too late
abbrev pub sent_too_late : List (List Event)
sent_too_late = (receipt ∷ []) ∷ (send ∷ []) ∷ []
