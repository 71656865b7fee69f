use Rattle.std.proofs.Common.{map, subst}
use Rattle.std.proofs.lemmas.Result.{IfOk-weaker}
use Rattle.run_model.specs.Sublattice.{IsGreatest}
use Rattle.run_model.specs.Slice.{Cuts}
use Rattle.slice_graph.specs.Views.{slice_of, joined_rows}
use Rattle.slice_graph.specs.Edges.{edge_of}
use Rattle.slice_graph.proofs.EdgeSteps.{told_top, edges_listed, edges_denote, edges_printed}
use Rattle.slice_graph.proofs.slice.Slice.edges.Goals as goal

pub returns-in-Some-clause-denoted : goal.returns-in-Some-clause-denoted
returns-in-Some-clause-denoted c = λ low is.
    let same = told_top (slice_of c.args.self.now).bottom c.in-Some.top.now (joined_rows c.args.self.now) low c.in-Some.ensures.top is in
    let greatest = subst (IsGreatest (Cuts c.args.order.now (slice_of c.args.self.now))) same (c.in-Some.ensures.greatest c.args.order.now c.shape-shape.ensures.order c.requires) in
    IfOk-weaker c.edges_within.result _ _ (λ edges h. edges_denote c.args.order.now c.shape-shape.ensures.order c.args.self.now c.requires low (joined_rows c.args.self.now) (map edge_of edges) is greatest
    (edges_listed c.args.order.now c.args.self.now c.in-Some.top.now (joined_rows c.args.self.now) (map edge_of edges) h same)) c.edges_within.ensures

pub returns-in-Some-clause-printed : goal.returns-in-Some-clause-printed
returns-in-Some-clause-printed c = λ low is.
    let same = told_top (slice_of c.args.self.now).bottom c.in-Some.top.now (joined_rows c.args.self.now) low c.in-Some.ensures.top is in
    let greatest = subst (IsGreatest (Cuts c.args.order.now (slice_of c.args.self.now))) same (c.in-Some.ensures.greatest c.args.order.now c.shape-shape.ensures.order c.requires) in
    IfOk-weaker c.edges_within.result _ _ (λ edges h. edges_printed c.args.order.now c.args.self.now c.requires low (joined_rows c.args.self.now) (map edge_of edges) is greatest
    (edges_listed c.args.order.now c.args.self.now c.in-Some.top.now (joined_rows c.args.self.now) (map edge_of edges) h same)) c.edges_within.ensures
