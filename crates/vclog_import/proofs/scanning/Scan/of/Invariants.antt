use Rattle.std.proofs.Common.{length}
use Rattle.vclog_import.specs.inside.Reading.{left}
use Rattle.vclog_import.proofs.ScanSteps.{Scanning}
use Rattle.vclog_import.proofs.scanning.Scan.of.Given as goal

abbrev pub invariant-lines : goal.invariant-lines
invariant-lines l = Scanning l.text l.scan l.left

abbrev pub decreases-lines : goal.decreases-lines
decreases-lines l = length (left l.left)
