use Rattle.raise_machine.proofs.Raising.{starts_bounds}
use Rattle.bound_laws.proofs.row_laws.starts_are_bounds.Goals as goal

pub returns : goal.returns
returns c = starts_bounds
