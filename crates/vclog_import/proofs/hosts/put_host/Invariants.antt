use Rattle.std.proofs.Common.{◌≡◌}
use Rattle.vclog_import.specs.inside.Scans.{hosts_in}
use Rattle.vclog_import.proofs.Inserting.{Walks}
use Rattle.vclog_import.proofs.hosts.put_host.Given as goal

abbrev pub invariant-loop-i : goal.invariant-loop-i
invariant-loop-i l = (l.hosts.items ≡ l.initial.hosts.items) × Walks l.host (hosts_in l.hosts.items) l.i
