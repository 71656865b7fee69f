use Rattle.std.proofs.Common.{arith}
use Rattle.question_forms.proofs.Counting.{one_more}
use Rattle.question_forms.proofs.nodes.+counting.Goals as goal

pub nodes_count-members-preserved : goal.nodes_count-members-preserved
nodes_count-members-preserved t c =
    omega (arith, one_more c.args.members.now c.members.member-index c.member-item.result c.members-test.true c.member-item.is, c.members.invariant, c.node_count.ensures, (c.saturating_add-count).ensures)
