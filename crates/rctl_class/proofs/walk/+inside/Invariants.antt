use Rattle.std.proofs.Common.{◌≡◌, ◌++◌, map, take, true, None}
use Rattle.rctl_class.specs.NamedParts.{pieces_of}
use Rattle.rctl_class.specs.Nodes.{node_of, nodes_of}
use Rattle.rctl_class.specs.Faults.{first_of}
use Rattle.rctl_class.specs.Walk.{all_parts}
use Rattle.rctl_class.proofs.walk.+inside.Given as goal

abbrev pub invariant-conjunctions-members : goal.invariant-conjunctions-members
invariant-conjunctions-members l =
    (first_of true l.sign (nodes_of (map node_of (take l.member-index l.members))) ≡ None)
    × (pieces_of l.parts ≡ pieces_of l.initial.parts ++ all_parts l.sign (nodes_of (map node_of (take l.member-index l.members))))
