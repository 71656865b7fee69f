use Rattle.std.proofs.Common.{length}
use Rattle.rctl_names.specs.Numbers.{known_in}
use Rattle.rctl_names.specs.Seen.{names_of}
use Rattle.asked_observation.proofs.Fronts.{IsFront, HasUnknown}
use Rattle.asked_observation.proofs.unknown.first_of.Given as goal

abbrev pub invariant-fronts : goal.invariant-fronts
invariant-fronts l = IsFront l.fn.classed.disjuncts l.front.disjuncts × HasUnknown (known_in (names_of l.fn.header l.fn.names)) l.front.disjuncts l.fault

abbrev pub decreases-fronts : goal.decreases-fronts
decreases-fronts l = length l.front.disjuncts
