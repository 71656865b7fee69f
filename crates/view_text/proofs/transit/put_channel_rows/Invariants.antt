use Rattle.std.proofs.Common.{◌≡◌, ◌++◌}
use Rattle.view_parts.specs.Each.{each_below}
use Rattle.view_text.specs.Text.{channels_from}
use Rattle.view_text.proofs.transit.put_channel_rows.Given as goal

abbrev pub invariant-loop-sender : goal.invariant-loop-sender
invariant-loop-sender l = l.out ≡ l.fn.out ++ each_below l.sender (channels_from l.states l.tokens l.cut)
