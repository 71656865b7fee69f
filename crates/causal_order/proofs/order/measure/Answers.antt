use Rattle.std.proofs.Common.{◌+◌, ◌≤◌, ◌<◌, ◌∙◌, ℕ, sym, subst, length, get_or, arith}
use Rattle.run_model.specs.Cut.{lengths}
use Rattle.pota_base.proofs.Lengths.{MeasuredBelow, measured_more, measured_same, measured_all, measured_shape}
use Rattle.causal_order.proofs.Growing.{length-lengths, count-lengths, item_le_sum}
use Rattle.causal_order.proofs.Orders.{lengths_shape}
use Rattle.causal_order.proofs.order.measure.Goals as goal
use Rattle.causal_order.proofs.order.measure.Goals.{then-len-len_of, else-len-len_of}

pub overflow_cast-len : goal.overflow_cast-len
overflow_cast-len c =
    let len = count-lengths c.args.table.now c.loop-process.process in
    omega (arith, c.len_of-len.ensures, len, item_le_sum (lengths c.args.table.now) c.loop-process.process, c.requires.few)

pub raise-requires-clause-shape : goal.raise-requires-clause-shape
raise-requires-clause-shape c =
    let o = c.args.table.now in
    let count = length-lengths o in
    let there : c.loop-process.process < length c.loop-process.shape = omega (arith, c.loop-process-test.true, c.procs-process-end.ensures.count, c.loop-process.invariant.count) in
    measured_shape c.args.shape.now (lengths o) c.loop-process.shape c.loop-process.process c.len_of-len.result c.loop-process.invariant there
    (c.len_of-len.ensures ∙ sym (count-lengths o c.loop-process.process)) (count ∙ sym c.requires.count)
    (lengths_shape o c.args.shape.now c.procs-process-end.ensures.shape c.requires.count c.requires.few)
    (λ p. subst (λ (n : ℕ). get_or c.args.shape.now p 0 ≤ n) (sym (count-lengths o p)) (c.requires.fits p))

pub loop-process-preserved : goal.loop-process-preserved
loop-process-preserved c =
    let o = c.args.table.now in
    let there : c.loop-process.process < length c.loop-process.shape = omega (arith, c.loop-process-test.true, c.procs-process-end.ensures.count, c.loop-process.invariant.count) in
    let len = c.len_of-len.ensures ∙ sym (count-lengths o c.loop-process.process) in
    elim c.if-len-len_of.branch [
      | then-len-len_of w ↦ subst (MeasuredBelow c.args.shape.now (lengths o) (c.loop-process.process + 1)) (sym (w.shape-is ∙ w.raise.ensures))
          (measured_more c.args.shape.now (lengths o) c.loop-process.shape c.loop-process.process c.len_of-len.result c.loop-process.invariant there len)
      | else-len-len_of w ↦ subst (MeasuredBelow c.args.shape.now (lengths o) (c.loop-process.process + 1)) (sym w.shape-is)
          (measured_same c.args.shape.now (lengths o) c.loop-process.shape c.loop-process.process c.loop-process.invariant
          (omega (arith, len, w.if-len-len_of.false, c.len_of.ensures.len, c.requires.fits c.loop-process.process, c.len_of-len.ensures, c.loop-process.invariant.above c.loop-process.process (omega arith))))
    ]

pub returns : goal.returns
returns c =
    let o = c.args.table.now in
    measured_all c.args.shape.now (lengths o) c.loop-process.shape c.loop-process.process c.loop-process.invariant (length-lengths o ∙ sym c.requires.count)
    (omega (arith, c.loop-process-test.false, c.procs-process-end.ensures.count))
