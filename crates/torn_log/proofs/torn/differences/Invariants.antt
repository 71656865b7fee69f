use Rattle.std.proofs.Common.{◌≡◌, ◌++◌, drop}
use Rattle.torn_log.specs.Items.{differences}
use Rattle.torn_log.proofs.torn.differences.Given as goal

abbrev pub invariant-loop-i : goal.invariant-loop-i
invariant-loop-i l = l.left ++ differences (drop l.i l.counts) (drop l.i l.cut) ≡ differences l.counts l.cut
