use Rattle.std.proofs.Common.{List, ℕ, sym, subst, arith}
use Rattle.run_model.specs.Cut.{lengths}
use Rattle.run_model.proofs.Counts.{length-lengths}
use Rattle.slice_graph.specs.Views.{IsCut}
use Rattle.temporal_slice.proofs.Rows.{clock_cut}
use Rattle.temporal_slice.proofs.possible.push_past.Goals as goal

pub bounds-top-event : goal.bounds-top-event
bounds-top-event c = omega (arith, c.requires.event.process, c.requires.top, length-lengths c.args.order.now)

pub push_cut-requires : goal.push_cut-requires
push_cut-requires c = subst (λ (lens : List ℕ). IsCut lens c.clock.result.now) (sym c.requires.lens)
    (subst (IsCut (lengths c.args.order.now)) (sym c.clock.ensures.clock) (clock_cut c.args.order.now c.shape-shape.ensures.order c.args.event c.requires.event))
