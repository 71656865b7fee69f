use Rattle.std.proofs.Common.{◌≡◌, ◌∙◌, ◌++◌, ℕ, ap, subst, sym, length, arith}
use Rattle.event_log.specs.declared.log.Event.{Event}
use Rattle.vector_clock.specs.inside.Nodes.{node_at, starts_of, AreStarts}
use Rattle.vector_clock.proofs.Looks.{event_is}
use Rattle.vector_clock.proofs.CountLaws.{starts_more}
use Rattle.vector_clock.proofs.counts.starts_in.Goals as goal

pub loop-i-preserved : goal.loop-i-preserved
loop-i-preserved c =
    let at = event_is c.args.batch.now c.loop-i.i c.index-batch-i.result c.loop-i-test.true c.index-batch-i.is in
    starts_more c.args.order.now c.args.process c.args.batch.now c.args.nodes.now c.loop-i.i c.loop-i.starts.items _
    (c.in_ok-add_starts.ensures ∙ ap (λ (e : Event). c.loop-i.starts.items ++ starts_of c.args.order.now c.args.process c.loop-i.i e (node_at c.args.nodes.now c.loop-i.i)) (sym at)) c.loop-i.invariant

pub returns : goal.returns
returns c =
    let all : c.loop-i.i ≡ length c.args.batch.now = omega (arith, c.loop-i-test.false, c.loop-i.auto.i-end) in
    subst (λ (n : ℕ). AreStarts c.args.order.now c.args.process c.args.batch.now c.args.nodes.now n c.loop-i.starts.items) all c.loop-i.invariant
