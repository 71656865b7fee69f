use Rattle.std.proofs.Common.{arith}
use Rattle.std.proofs.lemmas.Grind.{common_steps}
use Rattle.cut_lattice.proofs.Steps.{done_min}
use Rattle.cut_lattice.proofs.cut.Cut.meet_into.Goals as goal

pub returns : goal.returns
returns c = done_min c.args.self.now c.args.other.now _ _ c.loop-i.invariant c.requires (grind (arith, common_steps))
