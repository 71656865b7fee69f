use Rattle.std.proofs.Common.{ap, ◌∙◌}
use Rattle.std.proofs.lemmas.Bool.{false≢true}
use Rattle.slice_graph.specs.Views.{joined_rows}
use Rattle.slice_graph.proofs.Tops.{top_there}
use Rattle.slice_graph.proofs.slice.Slice.top.Goals as goal

pub returns-else-is_empty-clause-greatest : goal.returns-else-is_empty-clause-greatest
returns-else-is_empty-clause-greatest c = λ o order fits. top_there o order c.args.self.now fits c.as_slice.result.now
    (c.as_slice.ensures ∙ c.self.invariant.1 ∙ ap joined_rows c.self.view_is)
    (λ none. false≢true (c.if-is_empty.ensures.bottom.1 none))
