use Rattle.std.proofs.Common.{take}
use Rattle.rctl_parts.specs.Pieces.{disjuncts_of}
use Rattle.certificate.proofs.Steps.{Planned}
use Rattle.certificate.proofs.plan.plan_of.Given as goal

abbrev pub invariant-disjuncts : goal.invariant-disjuncts
invariant-disjuncts l = Planned l.seen l.nodes l.asked (disjuncts_of (take l.disjunct-index l.disjuncts))
