use Rattle.std.proofs.Common.{length}
use Rattle.view_parts.proofs.Faults.{AreTakenOn}
use Rattle.view_parts.proofs.reading.read_lines.Given as goal

abbrev pub invariant-lines : goal.invariant-lines
invariant-lines l = AreTakenOn l.text l.rest l.line l.draft

abbrev pub decreases-lines : goal.decreases-lines
decreases-lines l = length l.rest
