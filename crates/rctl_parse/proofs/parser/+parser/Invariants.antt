use Rattle.std.proofs.Common.{◌+◌, ◌*◌, length}
use Rattle.rctl_parse.specs.inside.Parts.{ConjunctionSoFar, FormulaSoFar}
use Rattle.rctl_parse.proofs.parser.+parser.Given as goal

abbrev pub decreases-unary : goal.decreases-unary
decreases-unary l = 8 * length l.tokens.now + 1

abbrev pub decreases-prefixed : goal.decreases-prefixed
decreases-prefixed l = 8 * length l.rest.now + 2

abbrev pub decreases-stepping : goal.decreases-stepping
decreases-stepping l = 8 * length l.rest.now + 2

abbrev pub decreases-group : goal.decreases-group
decreases-group l = 8 * length l.rest.now + 5

abbrev pub decreases-until : goal.decreases-until
decreases-until l = 8 * length l.rest.now + 5

abbrev pub decreases-enclosed : goal.decreases-enclosed
decreases-enclosed l = 8 * length l.tokens.now + 4

abbrev pub decreases-conjunction : goal.decreases-conjunction
decreases-conjunction l = 8 * length l.tokens.now + 2

abbrev pub decreases-formula : goal.decreases-formula
decreases-formula l = 8 * length l.tokens.now + 3

abbrev pub invariant-conjunction-members : goal.invariant-conjunction-members
invariant-conjunction-members l = ConjunctionSoFar l.fn.tokens l.more l.around l.nodes l.members l.at

abbrev pub decreases-conjunction-members : goal.decreases-conjunction-members
decreases-conjunction-members l = length l.more

abbrev pub invariant-formula-members : goal.invariant-formula-members
invariant-formula-members l = FormulaSoFar l.fn.tokens l.more l.around l.nodes l.members l.at

abbrev pub decreases-formula-members : goal.decreases-formula-members
decreases-formula-members l = length l.more
