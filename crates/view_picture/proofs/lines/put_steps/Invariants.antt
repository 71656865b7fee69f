use Rattle.std.proofs.Common.{◌≡◌, ◌+◌, ◌++◌, get_or}
use Rattle.view_parts.specs.Each.{each_below}
use Rattle.view_picture.specs.Drawing.{step_drawn, no_place}
use Rattle.view_picture.proofs.lines.put_steps.Given as goal

abbrev pub invariant-loop-k : goal.invariant-loop-k
invariant-loop-k l = l.out ≡ l.fn.out ++ each_below l.k (λ k. step_drawn l.frame l.columns (get_or l.steps k no_place) (k + 1))
