use Rattle.std.proofs.Common.{◌≡◌, ◌++◌, replicate}
use Rattle.view_text.proofs.columns.put_spaces.Given as goal

abbrev pub invariant-loop-i : goal.invariant-loop-i
invariant-loop-i l = l.out ≡ l.fn.out ++ replicate l.i 32
