use Rattle.std.proofs.Common.{◌≡◌, drop}
use Rattle.std.specs.List.{list_any}
use Rattle.vclog_import.specs.Hosts.{Host, do_clash}
use Rattle.vclog_import.specs.inside.Scans.{hosts_in}
use Rattle.vclog_import.proofs.names.clashes.Given as goal

abbrev pub invariant-loop-other : goal.invariant-loop-other
invariant-loop-other l = list_any (λ (h : Host). do_clash h l.host) (hosts_in l.hosts) ≡ list_any (λ (h : Host). do_clash h l.host) (hosts_in (drop l.other-index l.hosts))
