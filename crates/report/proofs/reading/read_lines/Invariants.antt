use Rattle.std.proofs.Common.{length, ◌-◌}
use Rattle.report.proofs.FaultLaws.{AreTaken}
use Rattle.report.proofs.reading.read_lines.Given as goal

abbrev pub invariant-lines : goal.invariant-lines
invariant-lines l = AreTaken l.text l.rest l.line l.draft

abbrev pub decreases-lines : goal.decreases-lines
decreases-lines l = length l.rest
