use Rattle.std.proofs.Common.{◌≡◌, ◌++◌, take}
use Rattle.std.specs.List.{flat_map}
use Rattle.view_picture.specs.Drawing.{lost_from}
use Rattle.view_picture.proofs.lost.put_lost.Given as goal

abbrev pub invariant-loop-k : goal.invariant-loop-k
invariant-loop-k l = l.out ≡ l.fn.out ++ flat_map (lost_from l.states l.frame l.columns) (take l.k l.shown)
