use Rattle.std.proofs.Common.{◌≡◌, ◌∙◌, ℕ, ap, subst, sym, length, arith}
use Rattle.causal_order.proofs.Growing.{length-lengths}
use Rattle.vector_clock.specs.inside.Nodes.{AreCounts, HaveCounts}
use Rattle.vector_clock.proofs.CountLaws.{counts_more}
use Rattle.vector_clock.proofs.counts.clocks_of.Goals as goal

pub counts_of-requires-clause-process : goal.counts_of-requires-clause-process
counts_of-requires-clause-process c =
    let procs : c.procs-procs.result ≡ length c.args.order.now = c.procs-procs.ensures.count ∙ ap length c.shape.ensures.lens ∙ length-lengths c.args.order.now in
    omega (arith, procs, c.loop-process-test.true)

pub loop-process-preserved : goal.loop-process-preserved
loop-process-preserved c =
    counts_more c.args.order.now c.args.batch.now c.args.nodes.now c.args.readers.now c.loop-process.process c.loop-process.clocks.items _ c.deref.result.now c.loop-process.invariant
    (subst (AreCounts c.args.order.now c.args.batch.now c.args.nodes.now c.args.readers.now c.loop-process.process) (sym c.deref.ensures.value) c.in_ok-values.ensures) c.in_ok-add_counts.ensures

pub returns : goal.returns
returns c =
    let procs : c.procs-procs.result ≡ length c.args.order.now = c.procs-procs.ensures.count ∙ ap length c.shape.ensures.lens ∙ length-lengths c.args.order.now in
    let all : c.loop-process.process ≡ length c.args.order.now = omega (arith, procs, c.loop-process-test.false, c.loop-process.auto.process-end) in
    subst (λ (n : ℕ). HaveCounts c.args.order.now c.args.batch.now c.args.nodes.now c.args.readers.now n c.loop-process.clocks.items) all c.loop-process.invariant
