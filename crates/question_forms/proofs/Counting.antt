-- How many nodes members have.
use Rattle.std.proofs.Common.{◌≡◌, ℕ, ◌+◌, ◌<◌, List, length, get_or, ap, arith}
use Rattle.rctl_grammar.specs.declared.tree.Tree.{Tree}
use Rattle.rctl_class.specs.Nodes.{Nodes, none, more, node_of, node_count, nodes_count}
use Rattle.rctl_class.proofs.Members.{joined, before, members_more}

count_joined : (ns ms : Nodes) → nodes_count (joined ns ms) ≡ nodes_count ns + nodes_count ms
count_joined none ms = omega arith
count_joined (more n ns) ms = omega (arith, count_joined ns ms)

-- with one member more
pub one_more : (members : List Tree) (i : ℕ) (t : Tree) → i < length members → t ≡ get_or members i t
    → nodes_count (before members (i + 1)) ≡ nodes_count (before members i) + node_count (node_of t)
one_more members i t lt is = omega (arith, ap nodes_count (members_more members i t lt is), count_joined (before members i) (more (node_of t) none))
