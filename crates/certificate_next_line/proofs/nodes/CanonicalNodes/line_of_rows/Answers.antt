use Rattle.std.proofs.Common.{◌<◌, sym, subst}
use Rattle.certificate_nodes.specs.Nodes.{NodesView, OfPresent}
use Rattle.certificate_next_line.specs.Coming.{lines_left}
use Rattle.certificate_next_line.specs.inside.Coming.{IsNextOfRows}
use Rattle.certificate_next_line.proofs.Steps.{of_these, rows_less}
use Rattle.certificate_next_line.proofs.nodes.CanonicalNodes.line_of_rows.Goals as goal

pub returns-clause-less : goal.returns-clause-less
returns-clause-less g c =
    let v : NodesView = c.self.inside.nodes in
    let line = c.in-Some-next_of_rows.line in
    let here : OfPresent (λ rows. IsNextOfRows rows line) v.present = of_these v.present c.in-Some.rows.now line c.in-Some.ensures.rows c.in-Some-next_of_rows.ensures.next in
    subst (λ (u : NodesView). lines_left c.take_of_rows.new.nodes < lines_left u) c.self.view_is
    (subst (λ (u : NodesView). lines_left u < lines_left v) (sym c.take_of_rows.ensures) (rows_less v c.present.ensures.nodes line here))
