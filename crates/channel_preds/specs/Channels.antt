-- The messages of a channel, counted along its two processes, and the pulls that bounds on their
-- number ask for.
-- ---- what is counted along a process
use Rattle.std.specs.Prelude.{◌≡◌, ℕ, ◌+◌, ◌-◌, ◌<◌, ◌==◌, min, nat_le, Bool, false}
use Rattle.std.specs.Prelude.{List, [], length, map, take, get_or, count_by, slice_index}
use Rattle.std.specs.Prelude.{if◌then◌else◌}
use Rattle.std.specs.List.{range_with_len}
use Rattle.run_model.specs.Run.{is_send_to, is_receipt_from}
use Rattle.event_log.specs.declared.log.Event.{Event}
use Rattle.event_log.specs.declared.log.Kind.{Kind}
use Rattle.event_log.specs.States.{StatesView, kind_of}
use Rattle.pull_system.specs.declared.pull.Pull.{Pull}
use Rattle.pull_system.specs.Pulls.{first_below}
use Rattle.channel_preds.specs.declared.counted.Counted.{Counted}
use Rattle.channel_preds.specs.declared.counted.Counted.TheVariants as counted

-- the event is one of those that are counted
abbrev pub is_counted : Counted → Kind → Bool
is_counted (counted.SendsTo receiver) kind = is_send_to receiver (kind_of kind)
is_counted (counted.ReceiptsFrom sender) kind = is_receipt_from sender (kind_of kind)
is_counted counted.Nothing kind = false

-- how many of the first a events are counted
abbrev pub count_of : Counted → List Event → ℕ → ℕ
count_of which events a = count_by (λ (e : Event). is_counted which e.kind) (take a events)

-- the count after each number of events, none included
abbrev pub counts_of : Counted → List Event → List ℕ
counts_of which events = map (count_of which events) (range_with_len 0 (length events + 1))

-- what counts as sent by the one to the other; a process sends nothing to itself
abbrev pub sends_to : ℕ → ℕ → Counted
sends_to sender receiver = if sender == receiver then counted.Nothing else counted.SendsTo receiver

-- what counts as received from the sender
abbrev pub receipts_from : ℕ → ℕ → Counted
receipts_from sender receiver =
    if sender == receiver then counted.Nothing else counted.ReceiptsFrom sender

-- ---- a channel

-- its two processes, the sends after each number of events of the sender, and the receipts after
-- each of the receiver
pub record ChannelView : Type 0 where
  pub sender : ℕ
  pub receiver : ℕ
  pub sent : List ℕ
  pub received : List ℕ

-- the events of a process
abbrev pub events_at : StatesView → ℕ → List Event
events_at states process = get_or states.events process []

-- the channel from one process to another in the run so far
abbrev pub channel_of : StatesView → ℕ → ℕ → ChannelView
channel_of states sender receiver = record {
  sender = sender;
  receiver = receiver;
  sent = counts_of (sends_to sender receiver) (events_at states sender);
  received = counts_of (receipts_from sender receiver) (events_at states receiver);
}

-- the channel is between processes of the shape, and has a count after each number of their events
pub record FitsShape (lens : List ℕ) (channel : ChannelView) : Type 0 where
  pub sender : channel.sender < length lens
  pub receiver : channel.receiver < length lens
  pub sent : length channel.sent ≡ slice_index lens channel.sender + 1
  pub received : length channel.received ≡ slice_index lens channel.receiver + 1

-- the vector's components at the two processes are numbers of their events, none past the end
pub record IsWithinChannel (channel : ChannelView) (v : List ℕ) : Type 0 where
  pub sender : slice_index v channel.sender < length channel.sent
  pub receiver : slice_index v channel.receiver < length channel.received

-- the sends within a vector
abbrev pub sent_at : ChannelView → List ℕ → ℕ
sent_at channel v = slice_index channel.sent (slice_index v channel.sender)

-- the receipts within a vector
abbrev pub received_at : ChannelView → List ℕ → ℕ
received_at channel v = slice_index channel.received (slice_index v channel.receiver)

-- ---- the pulls

-- the first position whose count, with `extra`, has reached the bound, or the number of counts
-- where there is none
abbrev pub first_reaching : List ℕ → ℕ → ℕ → ℕ
first_reaching follows extra bound =
    first_below (λ y. nat_le bound (slice_index follows y + extra)) (length follows)

-- a count of the leading process; past its last one, that one again
abbrev pub lead_at : List ℕ → ℕ → ℕ
lead_at leads x = slice_index leads (min x (length leads - 1))

-- for each position of the leading process the first one of the following process whose count, with
-- `extra`, has reached the leading count, with `more`; the entry past the last position is the last
-- position's again
abbrev pub first_positions : List ℕ → ℕ → List ℕ → ℕ → List ℕ
first_positions leads more follows extra =
    map (λ x. first_reaching follows extra (lead_at leads x + more))
    (range_with_len 0 (length leads + 1))

-- at most k messages are under way: the receipts, with k, have reached the sends
abbrev pub at_most_pull : ChannelView → ℕ → Pull
at_most_pull channel k = record {
  src = channel.sender;
  dst = channel.receiver;
  table = first_positions channel.sent 0 channel.received k;
}

-- at least k messages are under way: the sends have reached the receipts, with k
abbrev pub at_least_pull : ChannelView → ℕ → Pull
at_least_pull channel k = record {
  src = channel.receiver;
  dst = channel.sender;
  table = first_positions channel.received k channel.sent 0;
}
