use Rattle.std.proofs.Common.{◌≡◌, ◌++◌}
use Rattle.view_parts.specs.Each.{each_below}
use Rattle.view_picture.specs.Drawing.{under, assign_text}
use Rattle.view_picture.proofs.marks.put_assigns_under.Given as goal

abbrev pub invariant-loop-k : goal.invariant-loop-k
invariant-loop-k l = l.out ≡ l.fn.out ++ each_below l.k (λ k. under l.marked.frame.now.wide l.at k (assign_text l.marked.states.now l.marked.frame.now.wide l.event k))
