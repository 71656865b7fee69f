use Rattle.std.proofs.Common.{◌≡◌, ◌++◌, length, map, get_or}
use Rattle.view_parts.specs.Each.{each_below}
use Rattle.view_picture.specs.Drawing.{left_out_behind}
use Rattle.view_picture.proofs.left_out.put_all_behind.Given as goal

abbrev pub invariant-loop-process : goal.invariant-loop-process
invariant-loop-process l = l.out ≡ l.fn.out ++ each_below l.process (λ p. left_out_behind l.frame l.columns p (get_or (map length l.states.events) p 0))
