use Rattle.std.proofs.Common.{◌≡◌, map, take}
use Rattle.rctl_class.specs.NamedParts.{expr_of, exprs}
use Rattle.over_questions.specs.Barred.{barred_exprs}
use Rattle.over_questions.proofs.barred.+exprs.Given as goal

abbrev pub invariant-barred_exprs-members : goal.invariant-barred_exprs-members
invariant-barred_exprs-members l = l.found ≡ barred_exprs (exprs (map expr_of (take l.member-index l.members)))
