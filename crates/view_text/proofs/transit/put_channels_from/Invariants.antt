use Rattle.std.proofs.Common.{◌≡◌, ◌++◌}
use Rattle.view_parts.specs.Each.{each_below}
use Rattle.view_text.specs.Text.{named_channel}
use Rattle.view_text.proofs.transit.put_channels_from.Given as goal

abbrev pub invariant-loop-receiver : goal.invariant-loop-receiver
invariant-loop-receiver l = l.out ≡ l.fn.out ++ each_below l.receiver (named_channel l.states l.tokens l.cut l.sender)
