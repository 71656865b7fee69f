use Rattle.std.proofs.Common.{◌≡◌, drop}
use Rattle.vclog_import.specs.inside.Reading.{records}
use Rattle.vclog_import.specs.inside.Scans.{first_bad_clock}
use Rattle.vclog_import.proofs.events.first_bad_clock.Given as goal

abbrev pub invariant-loop-line : goal.invariant-loop-line
invariant-loop-line l = first_bad_clock (records l.lines) ≡ first_bad_clock (records (drop l.line-index l.lines))
