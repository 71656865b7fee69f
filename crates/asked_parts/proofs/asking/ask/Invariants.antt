use Rattle.std.proofs.Common.{◌≡◌}
use Rattle.rctl_parts.specs.Pieces.{disjuncts_of}
use Rattle.asked_parts.specs.Asked.{asked_disjuncts}
use Rattle.asked_parts.proofs.asking.ask.Given as goal

abbrev pub invariant-disjuncts : goal.invariant-disjuncts
invariant-disjuncts l = disjuncts_of l.made ≡ asked_disjuncts l.form (disjuncts_of l.yielded)
