use Rattle.std.proofs.Common.{◌≡◌, ◌+◌, ◌≤◌, length}
use Rattle.std.specs.Fmt.{decimal}
use Rattle.log_lines.proofs.frames.width_of.Given as goal

abbrev pub invariant-loop-rest : goal.invariant-loop-rest
invariant-loop-rest l = (length (decimal l.number) + 1 ≡ l.width + length (decimal l.rest)) × (l.rest ≤ l.number)

abbrev pub decreases-loop-rest : goal.decreases-loop-rest
decreases-loop-rest l = l.rest
