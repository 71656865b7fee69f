use Rattle.rctl_names.proofs.Meaning.{resolved_means}
use Rattle.rctl_names.proofs.laws.resolved_parts_mean_the_formula.Goals as goal

pub returns : goal.returns
returns c = resolved_means
