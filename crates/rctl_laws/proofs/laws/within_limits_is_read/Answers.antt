use Rattle.rctl_laws.proofs.Within.{within_is_read}
use Rattle.rctl_laws.proofs.laws.within_limits_is_read.Goals as goal

pub returns : goal.returns
returns c = within_is_read
