use Rattle.std.proofs.Common.{length, ap, arith, inl, inr}
use Rattle.run_model.proofs.Counts.{length-lengths}
use Rattle.view_picture.proofs.columns.take_each.Goals as goal

pub take_one-requires-clause-process : goal.take_one-requires-clause-process
take_one-requires-clause-process c = omega (arith, c.loop-process-test.true, c.procs-process-end.ensures.count, ap length c.shape.ensures.lens, length-lengths c.args.order.now)

pub returns-clause-more : goal.returns-clause-more
returns-clause-more c = elim c.loop-process.invariant.more [
  | inl more ↦ inl more
  | inr none ↦ inr (λ p lt may. none.1 p (omega (arith, lt, c.loop-process-test.false, c.procs-process-end.ensures.count, ap length c.shape.ensures.lens, length-lengths c.args.order.now)) may)
]
