use Rattle.std.proofs.Common.{◌≡◌, map, take, None}
use Rattle.rctl_class.specs.Nodes.{node_of, nodes_of}
use Rattle.rctl_class.specs.Uses.{all_uses}
use Rattle.rctl_class.specs.Walk.{first_place}
use Rattle.rctl_class.proofs.local.+process.Given as goal

abbrev pub invariant-first_of_members-members : goal.invariant-first_of_members-members
invariant-first_of_members-members l = first_place (all_uses (nodes_of (map node_of (take l.member-index l.members)))) ≡ None
