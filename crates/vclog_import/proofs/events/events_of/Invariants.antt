use Rattle.vclog_import.specs.inside.Reading.{records}
use Rattle.vclog_import.specs.inside.Scans.{hosts_in}
use Rattle.vclog_import.proofs.MadeSteps.{Making}
use Rattle.vclog_import.proofs.events.events_of.Given as goal

abbrev pub invariant-loop-i : goal.invariant-loop-i
invariant-loop-i l = Making (records l.lines) (hosts_in l.hosts) l.made l.i
