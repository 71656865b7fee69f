use Rattle.std.proofs.Common.{◌≡◌, ◌++◌, drop}
use Rattle.one_log.specs.LeftOut.{left_out_lines}
use Rattle.one_log.proofs.left_out.left_out_lines.Given as goal

abbrev pub invariant-processes : goal.invariant-processes
invariant-processes l = l.out ++ left_out_lines (drop l.i l.names) (drop l.i l.counts) ≡ left_out_lines l.names l.counts
