use Rattle.rctl_print.proofs.MemberBrackets.{more_joined}
use Rattle.rctl_print.specs.declared.joint.Joint.TheVariants.{Amp}
use Rattle.part_text.specs.inside.Members.{shape_of_part}
use Rattle.part_text.proofs.part.operand_brackets.Goals as goal

pub returns-in_default : goal.returns-in_default
returns-in_default c = more_joined shape_of_part Amp Amp c.args.parts.now c.in_default.len_at_least
