use Rattle.std.proofs.Common.{◌≡◌, ◌++◌}
use Rattle.view_parts.specs.Each.{each_below}
use Rattle.view_picture.specs.Drawing.{shown_corners}
use Rattle.view_picture.proofs.lines.put_cut.Given as goal

abbrev pub invariant-loop-process : goal.invariant-loop-process
invariant-loop-process l = l.out ≡ l.initial.out ++ each_below l.process (shown_corners l.frame l.columns l.cut l.shift)
