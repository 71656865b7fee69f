use Rattle.std.proofs.Common.{◌≡◌, map, take, true}
use Rattle.rctl_class.specs.NamedParts.{expr_of, exprs}
use Rattle.rctl_class.specs.Nodes.{node_of, nodes_of}
use Rattle.rctl_class.specs.inside.Seen.{name_seen}
use Rattle.rctl_class.specs.Walk.{exprs_from}
use Rattle.rctl_class.specs.inside.Walk.{all_over}
use Rattle.rctl_class.proofs.local.+expr.Given as goal

abbrev pub invariant-exprs_at-members : goal.invariant-exprs_at-members
invariant-exprs_at-members l =
    (all_over (name_seen l.process) (nodes_of (map node_of (take l.member-index l.members))) ≡ true)
    × (exprs (map expr_of l.exprs) ≡ exprs_from (nodes_of (map node_of (take l.member-index l.members))))
