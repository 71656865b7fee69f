use Rattle.rctl_class.proofs.Derived.{within_limits, nodes_spell}
use Rattle.rctl_class.proofs.laws.read_formulas_are_within_limits.Goals as goal

pub returns-clause-limits : goal.returns-clause-limits
returns-clause-limits c = within_limits

pub returns-clause-meaning : goal.returns-clause-meaning
returns-clause-meaning c = nodes_spell
