use Rattle.vclog_import.proofs.OrderLaw as law
use Rattle.vclog_import.proofs.laws.counters_are_the_order.Goals as goal

pub returns : goal.returns
returns c = law.counters_are_the_order
