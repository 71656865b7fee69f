use Rattle.std.proofs.Common.{map, take}
use Rattle.rctl_class.specs.NamedParts.{expr_of as named_of, exprs as named_list}
use Rattle.rctl_parts.specs.Exprs.{expr_of, exprs}
use Rattle.rctl_names.specs.inside.Resolving.{AreExprsIn}
use Rattle.rctl_names.proofs.exprs.+expr.Given as goal

abbrev pub invariant-resolve_exprs-members : goal.invariant-resolve_exprs-members
invariant-resolve_exprs-members l =
    AreExprsIn l.on l.initial.watches l.watches (named_list (map named_of (take l.member-index l.members))) (exprs (map expr_of l.made))
