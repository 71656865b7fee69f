use Rattle.std.proofs.Common.{◌≡◌, ◌++◌}
use Rattle.view_parts.specs.Each.{each_below}
use Rattle.view_picture.specs.Drawing.{lane_drawn}
use Rattle.view_picture.proofs.lanes.put_lanes.Given as goal

abbrev pub invariant-loop-process : goal.invariant-loop-process
invariant-loop-process l = l.out ≡ l.fn.out ++ each_below l.process (lane_drawn l.states l.frame l.columns)
