use Rattle.rctl_names.proofs.Meaning.{resolved_counters, resolved_asks}
use Rattle.rctl_names.proofs.laws.resolved_parts_have_the_counters_of_the_formula.Goals as goal

pub returns-clause-counters : goal.returns-clause-counters
returns-clause-counters c = resolved_counters

pub returns-clause-kept : goal.returns-clause-kept
returns-clause-kept c = resolved_asks
