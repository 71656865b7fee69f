use Rattle.std.proofs.Common.{◌≡◌, ◌++◌, take}
use Rattle.std.specs.List.{flat_map}
use Rattle.view_picture.specs.Drawing.{number_to}
use Rattle.view_picture.proofs.numbers.put_all_numbers.Given as goal

abbrev pub invariant-loop-k : goal.invariant-loop-k
invariant-loop-k l = l.out ≡ l.fn.out ++ flat_map (number_to l.trace.states l.frame l.columns) (take l.k l.shown)
