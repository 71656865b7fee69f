use Rattle.std.proofs.Common.{Bool, subst}
use Rattle.run_model.specs.Cut.{lengths}
use Rattle.conjunctions.specs.inside.Settling.{IsFloorOf}
use Rattle.conjunctions.proofs.floors.beginning_of.Goals as goal

pub beginning_of_atoms-requires-clause-before : goal.beginning_of_atoms-requires-clause-before
beginning_of_atoms-requires-clause-before g c = subst (λ (k : Bool). IsFloorOf (lengths c.args.order.now) k c.args.before) c.if-keeps.true c.requires.before
