use Rattle.std.proofs.Common.{refl}
use Rattle.vclog_import.proofs.ScanSteps.{scanned_none}
use Rattle.vclog_import.proofs.scanning.Scan.new.Goals as goal

pub returns-clause-scanned : goal.returns-clause-scanned
returns-clause-scanned c = scanned_none _ c.new.ensures.items c.new-2.ensures.items refl
