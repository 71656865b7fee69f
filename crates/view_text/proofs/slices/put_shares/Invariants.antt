use Rattle.std.proofs.Common.{◌≡◌, ◌++◌}
use Rattle.view_parts.specs.Each.{each_below}
use Rattle.view_text.specs.Text.{share_row}
use Rattle.view_text.proofs.slices.put_shares.Given as goal

abbrev pub invariant-loop-process : goal.invariant-loop-process
invariant-loop-process l = l.out ≡ l.initial.out ++ each_below l.process (share_row l.states l.low l.high)
