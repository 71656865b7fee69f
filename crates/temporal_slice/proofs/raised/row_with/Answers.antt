use Rattle.std.proofs.Common.{sym, subst}
use Rattle.run_model.specs.Cut.{lengths}
use Rattle.slice_graph.specs.Views.{IsCut}
use Rattle.temporal_slice.proofs.Rows.{clock_cut}
use Rattle.temporal_slice.proofs.raised.row_with.Goals as goal

pub returns-in-None-clause-within : goal.returns-in-None-clause-within
returns-in-None-clause-within c = subst (IsCut (lengths c.args.order.now)) (sym c.clock.ensures.clock) (clock_cut c.args.order.now c.shape-shape.ensures.order c.args.event c.requires.event)
