use Rattle.std.proofs.Common.{◌≡◌}
use Rattle.rctl_class.specs.Nodes.{nodes_count}
use Rattle.question_forms.specs.inside.Splits.{capped}
use Rattle.rctl_class.proofs.Members.{before}
use Rattle.question_forms.proofs.nodes.+counting.Given as goal

abbrev pub invariant-nodes_count-members : goal.invariant-nodes_count-members
invariant-nodes_count-members l = l.count ≡ capped (nodes_count (before l.members l.member-index))
