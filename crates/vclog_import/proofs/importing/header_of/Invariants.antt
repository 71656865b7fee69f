use Rattle.vclog_import.proofs.LineLists.{HasHosts}
use Rattle.vclog_import.proofs.importing.header_of.Given as goal

abbrev pub invariant-loop-host : goal.invariant-loop-host
invariant-loop-host l = HasHosts l.header l.hosts l.host-index
