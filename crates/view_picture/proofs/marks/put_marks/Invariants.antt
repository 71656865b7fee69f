use Rattle.std.proofs.Common.{◌≡◌, ◌++◌, take}
use Rattle.std.specs.List.{flat_map}
use Rattle.std.specs.Option.{option_copied}
use Rattle.view_picture.specs.Drawing.{mark}
use Rattle.view_picture.proofs.marks.put_marks.Given as goal

abbrev pub invariant-loop-k : goal.invariant-loop-k
invariant-loop-k l = l.out ≡ l.fn.out ++ flat_map (mark l.marked.states.now l.marked.frame.now l.marked.columns.now (option_copied l.marked.top)) (take l.k l.shown)
