use Rattle.std.proofs.Common.{◌+◌, slice_index, take}
use Rattle.pull_fans.specs.inside.Asks.{AreAskRows}
use Rattle.pull_fans.specs.Fans.{pulls_of_fans}
use Rattle.pull_fans.proofs.asks.ask_rows.Given as goal

abbrev pub invariant-loop-fan : goal.invariant-loop-fan
invariant-loop-fan l = AreAskRows record { lens = l.shape; pulls = pulls_of_fans (take l.fan-index l.fans) } l.process (slice_index l.shape l.process + 2) l.rows.items
