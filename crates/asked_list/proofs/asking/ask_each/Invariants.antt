use Rattle.std.proofs.Common.{◌≡◌}
use Rattle.rctl_parts.specs.Pieces.{disjuncts_of}
use Rattle.asked_list.specs.Lists.{asked_each}
use Rattle.asked_list.proofs.asking.ask_each.Given as goal

abbrev pub invariant-disjuncts : goal.invariant-disjuncts
invariant-disjuncts l = disjuncts_of l.made ≡ asked_each l.forms (disjuncts_of l.yielded)
