use Rattle.std.proofs.Common.{◌+◌, ◌<◌, sym, subst}
use Rattle.std.proofs.lemmas.Bool.{OnTrue_at}
use Rattle.certificate_nodes.specs.Nodes.{NodesView, AreNodes, BeginsNode, MayBeginNode}
use Rattle.certificate_next_line.specs.Coming.{lines_left}
use Rattle.certificate_next_line.proofs.Steps.{node_less}
use Rattle.certificate_next_line.proofs.nodes.CanonicalNodes.line_of_node.Goals as goal

pub returns-then-branch-clause-less : goal.returns-then-branch-clause-less
returns-then-branch-clause-less g c =
    let v : NodesView = c.self.inside.nodes in
    let number = c.begun-number.result + 1 in
    let may : MayBeginNode v number = c.in_ok-begin_node.ensures.allowed.0 c.if-branch.true in
    let begins : BeginsNode v c.begin_node.new.self = OnTrue_at c.if-branch.true c.in_ok-begin_node.ensures.begun in
    subst (λ (u : NodesView). lines_left c.begin_node.new.self < lines_left u) c.self.view_is
    (node_less v c.begin_node.new.self number (subst AreNodes (sym c.self.view_is) c.requires.nodes) may begins)
