use Rattle.std.proofs.Common.{◌≡◌, ◌++◌, map, take}
use Rattle.rctl_grammar.specs.Shape.{shape_of}
use Rattle.rctl_print.specs.inside.Members.{each_behind}
use Rattle.rctl_print.proofs.tree.+tree.Given as goal

abbrev pub invariant-put_joined-members : goal.invariant-put_joined-members
invariant-put_joined-members l =
    l.out ≡ l.initial.out ++ each_behind l.joint (map shape_of (take l.member-index l.rest))
