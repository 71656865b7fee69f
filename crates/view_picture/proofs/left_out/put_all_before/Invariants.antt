use Rattle.std.proofs.Common.{◌≡◌, ◌++◌, take}
use Rattle.std.specs.List.{flat_map}
use Rattle.view_picture.specs.Drawing.{left_out_before}
use Rattle.view_picture.proofs.left_out.put_all_before.Given as goal

abbrev pub invariant-loop-k : goal.invariant-loop-k
invariant-loop-k l = l.out ≡ l.fn.out ++ flat_map (left_out_before l.frame l.columns) (take l.k l.shown)
