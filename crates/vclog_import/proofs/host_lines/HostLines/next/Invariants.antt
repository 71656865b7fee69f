use Rattle.std.proofs.Common.{length}
use Rattle.vclog_import.specs.inside.Reading.{lines_left}
use Rattle.vclog_import.proofs.LineSteps.{Passed}
use Rattle.vclog_import.proofs.host_lines.HostLines.next.Given as goal

abbrev pub invariant-lines : goal.invariant-lines
invariant-lines l = Passed l.initial.self l.self

abbrev pub decreases-lines : goal.decreases-lines
decreases-lines l = length (lines_left l.self)
