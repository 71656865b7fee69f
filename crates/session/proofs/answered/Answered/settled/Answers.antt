use Rattle.std.proofs.Common.{arith}
use Rattle.session.proofs.Standing.{rows_made}
use Rattle.session.proofs.answered.Answered.settled.Goals as goal

pub settled-requires-clause-there : goal.settled-requires-clause-there
settled-requires-clause-there c = omega (arith, rows_made _ c.args.self.now c.self.view_is c.self.invariant.stands c.requires.made, c.requires.there)
