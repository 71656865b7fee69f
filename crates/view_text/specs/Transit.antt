-- The messages in transit at a cut.
use Rattle.std.specs.Prelude.{ℕ, ◌-◌, ◌==◌, [], take, get_or, count_by, if◌then◌else◌}
use Rattle.run_model.specs.Cut.{Cut, count}
use Rattle.run_model.specs.Run.{is_send_to, is_receipt_from}
use Rattle.event_log.specs.declared.log.Event.{Event}
use Rattle.event_log.specs.States.{StatesView, kind_of}

-- how many of the first n events of the sender send to the receiver
abbrev pub sends : StatesView → ℕ → ℕ → ℕ → ℕ
sends s sender receiver n =
    count_by (λ (e : Event). is_send_to receiver (kind_of e.kind))
    (take n (get_or s.events sender []))

-- how many of the first n events of the receiver receive from the sender
abbrev pub receipts : StatesView → ℕ → ℕ → ℕ → ℕ
receipts s sender receiver n =
    count_by (λ (e : Event). is_receipt_from sender (kind_of e.kind))
    (take n (get_or s.events receiver []))

-- the messages that are sent within the cut and not received within it; none from a process to
-- itself
abbrev pub in_transit : StatesView → Cut → ℕ → ℕ → ℕ
in_transit s cut sender receiver =
    if sender == receiver then 0
    else (sends s sender receiver (count cut sender) - receipts s sender receiver
    (count cut receiver))
