use Rattle.std.proofs.Common.{◌≡◌, ◌++◌, map, take, false, None}
use Rattle.rctl_class.specs.NamedParts.{disjuncts_of}
use Rattle.rctl_class.specs.Nodes.{node_of, nodes_of}
use Rattle.rctl_class.specs.Faults.{first_of}
use Rattle.rctl_class.specs.Walk.{all_disjuncts}
use Rattle.rctl_class.proofs.walk.+outside.Given as goal

abbrev pub invariant-disjunctions-members : goal.invariant-disjunctions-members
invariant-disjunctions-members l =
    (first_of false l.sign (nodes_of (map node_of (take l.member-index l.members))) ≡ None)
    × (disjuncts_of l.disjuncts ≡ disjuncts_of l.initial.disjuncts ++ all_disjuncts l.sign (nodes_of (map node_of (take l.member-index l.members))))
