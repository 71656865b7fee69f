use Rattle.std.proofs.Common.{◌≡◌, ◌++◌}
use Rattle.asked_list.proofs.list.push_all.Given as goal

abbrev pub invariant-more : goal.invariant-more
invariant-more l = l.disjuncts ≡ l.initial.disjuncts ++ l.yielded
