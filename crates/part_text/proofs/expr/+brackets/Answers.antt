use Rattle.std.proofs.Common.{◌∙◌}
use Rattle.rctl_print.proofs.MemberBrackets.{more_joined}
use Rattle.part_text.specs.inside.Members.{joint_of, shape_over}
use Rattle.part_text.proofs.expr.+brackets.Goals as goal

pub joined_brackets-returns-in_default : goal.joined_brackets-returns-in_default
joined_brackets-returns-in_default t c =
    c.encloses.ensures ∙ more_joined (shape_over c.args.process.now) (joint_of c.args.joined) (joint_of c.args.inner) c.args.members.now c.in_default.len_at_least
