use Rattle.std.proofs.Common.{length, arith, ap, refl}
use Rattle.slice_graph.proofs.Lasts.{lasts_cuts}
use Rattle.slice_graph.proofs.slice.Slice.holds_lasts.Goals as goal

pub returns-clause-cuts : goal.returns-clause-cuts
returns-clause-cuts c = λ o fits. (
  λ _. lasts_cuts o c.args.self.now fits c.shape.ensures.rows.cuts.shape.some c.args.counts.now c.requires
      (λ k lt. c.loop-process.invariant k (omega (arith, c.loop-process-test.false, c.procs-process-end.ensures.count, ap length c.shape.ensures.lens))),
  λ _. refl,
)
