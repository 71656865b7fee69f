use Rattle.std.proofs.Common.{◌∙◌}
use Rattle.rctl_grammar.specs.Shape.{shape_of}
use Rattle.rctl_print.proofs.MemberBrackets.{more_joined}
use Rattle.rctl_print.proofs.joint.Joint.+brackets.Goals as goal

pub needs_brackets_joined-returns-in_default : goal.needs_brackets_joined-returns-in_default
needs_brackets_joined-returns-in_default t c =
    c.encloses.ensures ∙ more_joined shape_of c.args.self c.args.inner c.args.members.now c.in_default.len_at_least
