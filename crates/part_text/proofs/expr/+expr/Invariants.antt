use Rattle.std.proofs.Common.{◌≡◌, ◌++◌, map, take}
use Rattle.rctl_print.specs.inside.Members.{each_behind}
use Rattle.part_text.specs.inside.Members.{joint_of, shape_over}
use Rattle.part_text.proofs.expr.+expr.Given as goal

abbrev pub invariant-put_joined-members : goal.invariant-put_joined-members
invariant-put_joined-members l =
    l.out ≡ l.initial.out ++ each_behind (joint_of l.joined) (map (shape_over l.process) (take l.member-index l.rest))
