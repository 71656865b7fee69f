use Rattle.std.proofs.Common.{◌≡◌, take}
use Rattle.rctl_class.specs.NamedParts.{disjuncts_of}
use Rattle.over_questions.specs.Barred.{barred_disjuncts}
use Rattle.over_questions.proofs.barred.barred_in.Given as goal

abbrev pub invariant-disjuncts : goal.invariant-disjuncts
invariant-disjuncts l = l.found ≡ barred_disjuncts (disjuncts_of (take l.disjunct-index l.disjuncts))
