-- Inside: what the counts of a channel are.
use Rattle.std.specs.Prelude.{ℕ, ◌+◌, ◌-◌, ◌≤◌, ◌<◌}
use Rattle.std.specs.Prelude.{List, length, slice_index}
use Rattle.pota_base.specs.Limits.{most_events}
use Rattle.channel_preds.specs.declared.counted.Counted.TheVariants as counted
use Rattle.channel_preds.specs.Channels.{ChannelView}

-- a count after each number of events of a process, none included; it never falls
pub record AreCounts (counts : List ℕ) : Type 0 where
  pub some : 1 ≤ length counts
  pub rises : (x y : ℕ) → x ≤ y → y < length counts → slice_index counts x ≤ slice_index counts y

-- both of its lists are counts, of a run of at most 50,000 events
pub record IsChannel (channel : ChannelView) : Type 0 where
  pub sent : AreCounts channel.sent
  pub received : AreCounts channel.received
  pub few_sent : length channel.sent ≤ most_events + 1
  pub few_received : length channel.received ≤ most_events + 1
