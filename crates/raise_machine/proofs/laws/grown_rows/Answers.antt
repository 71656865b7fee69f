use Rattle.raise_machine.proofs.Raising.{grown_bounds}
use Rattle.raise_machine.proofs.laws.grown_rows.Goals as goal

pub returns : goal.returns
returns c = grown_bounds
