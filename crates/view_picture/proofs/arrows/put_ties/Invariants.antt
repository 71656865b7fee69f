use Rattle.std.proofs.Common.{◌≡◌, ◌++◌, take}
use Rattle.std.specs.List.{flat_map}
use Rattle.view_picture.specs.Drawing.{tie_drawn}
use Rattle.view_picture.proofs.arrows.put_ties.Given as goal

abbrev pub invariant-loop-tie : goal.invariant-loop-tie
invariant-loop-tie l = l.out ≡ l.fn.out ++ flat_map (tie_drawn l.frame l.columns) (take l.tie-index l.ties)
