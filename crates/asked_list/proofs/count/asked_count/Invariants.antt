use Rattle.std.proofs.Common.{◌≡◌, take}
use Rattle.rctl_class.specs.NamedParts.{disjuncts_of}
use Rattle.asked_list.specs.Lists.{asked_count}
use Rattle.asked_list.specs.inside.Counts.{capped}
use Rattle.asked_list.proofs.count.asked_count.Given as goal

abbrev pub invariant-disjuncts : goal.invariant-disjuncts
invariant-disjuncts l = l.count ≡ capped (asked_count l.fn.form (disjuncts_of (take l.disjunct-index l.disjuncts)))
