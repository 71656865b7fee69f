use Rattle.std.proofs.Common.{◌+◌, ◌++◌, replicate, ap, ◌∙◌}
use Rattle.slice_graph.specs.Views.{SliceView, no_row}
use Rattle.slice_graph.proofs.Pushing.{joined_nones}
use Rattle.slice_graph.proofs.slice.Slice.empty.Goals as goal

pub with_top-requires-clause-top : goal.with_top-requires-clause-top
with_top-requires-clause-top c =
    let n = c.events.result + 1 in
    let is = c.table.view_is ∙ c.in_ok-push_nones.ensures ∙ ap (λ (z : SliceView). record z { rows = z.rows ++ replicate n no_row }) c.in_ok-table.ensures in
    c.in_ok-new.ensures ∙ joined_nones c.args.shape.now n c.procs.result _ is c.procs.ensures.count
